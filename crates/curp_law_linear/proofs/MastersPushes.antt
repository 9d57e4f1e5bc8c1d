-- What an adopted master pushes leads the machine on, one entry after the other.
use Rattle.std.proofs.Common.{◌≡◌, ℕ, ◌+◌, List, [], ◌∷◌, ◌++◌, append_assoc, append-nil, length, length-append, refl, ap, sym, ◌∙◌, subst}
use Rattle.curp_base.specs.Words.{IsPrefix}
use Rattle.curp_base.proofs.Lists.{prefix_push, prefix_trans}
use Rattle.curp_cmd.specs.declared.entry.Entry.{Entry}
use Rattle.curp_cmd.specs.declared.entry.Entry.TheVariants.{Op, Take, Give, Expire}
use Rattle.curp_cmd.specs.declared.node.NodeId.{NodeId}
use Rattle.curp_msg.specs.declared.config.PartConfig.{PartConfig}
use Rattle.curp_model.specs.Marks.{Mark, executed}
use Rattle.curp_model.specs.World.{World, op_marks}
use Rattle.curp_facts.specs.Entries.{LogOk}
use Rattle.curp_facts.specs.Kept.{AdoptedLog}
use Rattle.curp_facts.specs.Known.{Known}
use Rattle.curp_law_linear.specs.Line.{LineState}
use Rattle.curp_law_linear.specs.Moves.{ExpirePush, Fits, GivePush, LineMove, OpPush, TakePush, after, pushed}
use Rattle.curp_law_linear.specs.Refined.{NoAdoption}
use Rattle.curp_law_linear.specs.Ordered.{Ordered}
use Rattle.curp_law_linear.proofs.MastersFit.{expire_fits, expire_push, give_moves, give_push, op_fits, op_push, take_moves, take_push}
use Rattle.curp_law_linear.proofs.MastersLog.{Leads, leads_first, leads_none, line_at, logs_at, one_pushed, part_at}
use Rattle.curp_facts.specs.Predecessors.{Predecessors}
use Rattle.curp_facts.specs.Migrated.{Migrated}
use Rattle.curp_facts.specs.Routes.{Routes}

module _ {w : World} (known : Known w) (chain : Predecessors w) (routes : Routes w) (migrated : Migrated w) (ordered : Ordered w)
    (c : PartConfig) (l : AdoptedLog w c) (new : List Entry) (prefix : IsPrefix l.its.log new) (ok : LogOk w c.part new) (node : NodeId) (epoch : ℕ) where
  abbrev at : List Entry → List Mark → LineState
  at log marks = line_at known chain routes migrated ordered c l new prefix ok log marks

  -- the marks of entries behind a log
  abbrev behind : List Entry → List Entry → List Mark
  behind log es = op_marks node c.part epoch (length log) es

  -- one entry first, by a move that leads to it
  step : (log : List Entry) (marks more : List Mark) (e : Entry) (rest : List Entry) → log ++ e ∷ rest ≡ new → (m : LineMove) → NoAdoption m → Fits (at log marks) m
      → after (at log marks) m ≡ record (at log marks) { parts = pushed (at log marks).parts c.part (part_at known chain routes migrated ordered c l new prefix ok log) e; marks = more }
      → (t : LineState) → Leads (at (log ++ e ∷ []) more) t → Leads (at log marks) t
  step log marks more e rest is m steady fits leads t on =
      leads_first (at log marks) t m steady fits (logs_at known chain routes migrated ordered c l new prefix ok log marks (record { rest = e ∷ rest; is = is }))
      (subst (λ (s : LineState). Leads s t) (sym (leads ∙ one_pushed known chain routes migrated ordered c l new prefix ok log marks more e)) on)

  -- all that stands behind a beginning of the new log
  pub push_all : (es log : List Entry) (marks : List Mark) → log ++ es ≡ new → IsPrefix l.its.log log → Leads (at log marks) (at new (marks ++ behind log es))
  push_all [] log marks is more = leads_none (at log marks) (at new (marks ++ []))
      (ap (λ (x : List Entry). at x marks) (sym (append-nil log) ∙ is) ∙ ap (at new) (sym (append-nil marks)))
  push_all (e ∷ es) log marks is more = go e is (λ (x : Entry) there ms. push_all es (log ++ x ∷ []) ms (append_assoc log (x ∷ []) es ∙ there) (prefix_trans more (prefix_push log (x ∷ []))))
    where
      -- the next place
      on : (x : Entry) → length (log ++ x ∷ []) ≡ length log + 1
      on x = length-append log (x ∷ [])

      go : (e : Entry) → log ++ e ∷ es ≡ new → ((x : Entry) → log ++ x ∷ es ≡ new → (ms : List Mark) → Leads (at (log ++ x ∷ []) ms) (at new (ms ++ behind (log ++ x ∷ []) es)))
          → Leads (at log marks) (at new (marks ++ behind log (e ∷ es)))
      go (Op r a) is more_on =
          let mine : Mark = executed node c.part epoch (length log) r.id r.command in
          let t = more_on (Op r a) is (marks ++ mine ∷ []) in
          step log marks (marks ++ mine ∷ []) (Op r a) es is (OpPush (op_push known chain routes migrated ordered c l new prefix ok log marks es more node epoch r a)) tt
          (op_fits known chain routes migrated ordered c l new prefix ok log marks es more node epoch r a is) refl _
          (subst (λ (ms : List Mark). Leads (at (log ++ Op r a ∷ []) (marks ++ mine ∷ [])) (at new ms))
          (append_assoc marks (mine ∷ []) (behind (log ++ Op r a ∷ []) es) ∙ ap (λ (n : ℕ). marks ++ mine ∷ op_marks node c.part epoch n es) (on (Op r a))) t)
      go (Take number taken) is more_on =
          let k = take_moves known chain routes migrated ordered c l new prefix ok log marks es more number taken is in
          let t = more_on (Take number taken) is marks in
          step log marks marks (Take number taken) es is (TakePush (take_push known chain routes migrated ordered c l new prefix ok log marks es more k.m)) tt k.fit
          (ap (λ (x : Entry). record (at log marks) { parts = pushed (at log marks).parts c.part (part_at known chain routes migrated ordered c l new prefix ok log) x }) k.same) _
          (subst (λ (n : ℕ). Leads (at (log ++ Take number taken ∷ []) marks) (at new (marks ++ op_marks node c.part epoch n es))) (on (Take number taken)) t)
      go (Give number given) is more_on =
          let k = give_moves known chain routes migrated ordered c l new prefix ok log marks es more number given is in
          let t = more_on (Give number given) is marks in
          step log marks marks (Give number given) es is (GivePush (give_push known chain routes migrated ordered c l new prefix ok log marks es more k.m given)) tt k.fit
          (ap (λ (x : ℕ). record (at log marks) { parts = pushed (at log marks).parts c.part (part_at known chain routes migrated ordered c l new prefix ok log) (Give x given) }) k.same) _
          (subst (λ (n : ℕ). Leads (at (log ++ Give number given ∷ []) marks) (at new (marks ++ op_marks node c.part epoch n es))) (on (Give number given)) t)
      go (Expire client) is more_on =
          let t = more_on (Expire client) is marks in
          step log marks marks (Expire client) es is (ExpirePush (expire_push known chain routes migrated ordered c l new prefix ok log marks es more client)) tt
          (expire_fits known chain routes migrated ordered c l new prefix ok log marks es more client) refl _
          (subst (λ (n : ℕ). Leads (at (log ++ Expire client ∷ []) marks) (at new (marks ++ op_marks node c.part epoch n es))) (on (Expire client)) t)
