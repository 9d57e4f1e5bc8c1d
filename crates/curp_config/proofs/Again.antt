-- What is adopted and told again, messages that the manager leaves alone, and nudges.
use Rattle.std.proofs.Common.{◌≡◌, ℕ, ◌∷◌, [], Option, Some, None, Result, Ok, Err, refl, ap, sym, subst}
use Rattle.std.specs.Prelude.{IfOk}
use Rattle.std.specs.Option.{option_map}
use Rattle.std.specs.declared.alloc.AllocError.{AllocError}
use Rattle.curp_cmd.specs.declared.node.NodeId.{NodeId}
use Rattle.curp_msg.specs.Moved.{Makes, Moved, Moves, done_of, quiet, sends}
use Rattle.curp_msg.specs.declared.body.Body.{Body}
use Rattle.curp_msg.specs.declared.body.Body.TheVariants as body
use Rattle.curp_msg.specs.declared.body.Parcel.{Parcel}
use Rattle.curp_msg.specs.declared.body.Recovered.{Recovered}
use Rattle.curp_msg.specs.declared.config.PartConfig.{PartConfig}
use Rattle.curp_msg.specs.declared.machine.Done.{Done}
use Rattle.curp_msg.specs.declared.machine.Local.TheVariants as local
use Rattle.curp_model.specs.Manager as model
use Rattle.curp_model.specs.Manager.{ManagerState, heard, manager_ordered, on_manager, unless_numbers_end}
use Rattle.curp_config.proofs.Ends.{stands}
use Rattle.curp_config.proofs.Ordered.{nudge_made}

again_stands : (g : ManagerState) (o : Option PartConfig) → unless_numbers_end g (model.tells_again g o) ≡ model.tells_again g o
again_stands g None = stands g (quiet g) refl refl
again_stands g (Some c) = stands g (sends g (model.adopted_message c ∷ [])) refl refl

again_same : (g : ManagerState) (o : Option PartConfig) → g ≡ (model.tells_again g o).state
again_same g None = refl
again_same g (Some c) = refl

told_again : (g : ManagerState) (o : Option PartConfig) (r : Result Done AllocError) → IfOk r (λ done. done ≡ done_of (model.tells_again g o))
    → Moves g g r (unless_numbers_end g (model.tells_again g o))
told_again g o (Ok done) told = subst (λ (m : Moved ManagerState). Makes g done m) (sym (again_stands g o)) (again_same g o, told)
told_again g o (Err no_memory) told = refl

none_there : {A B : Type 0} (f : A → B) (o : Option A) → None ≡ option_map f o → o ≡ None
none_there f None e = refl
none_there f (Some x) e = absurd cc

-- no lists of that version are in work
pub prepared_told : {B : Type 0} (f : model.NewLists → B) (g : ManagerState) (version : ℕ) (r : Result Done AllocError) → None ≡ option_map f (model.version_in_work g version)
    → IfOk r (λ done. done ≡ done_of (model.tells_again g (model.version_adopted g version))) → Moves g g r (unless_numbers_end g (model.on_prepared g version))
unfolding model.on_prepared
prepared_told f g version r none told =
    subst (λ (o : Option model.NewLists). Moves g g r (unless_numbers_end g (model.prepared_in g version o))) (sym (none_there f (model.version_in_work g version) none))
    (told_again g (model.version_adopted g version) r told)

not_heard : (g : ManagerState) (from : NodeId) (b : Body) → (b ≡ body.Fetch → ⊥) → ((r : Recovered) → b ≡ body.Recovered r → ⊥) → ((version : ℕ) → b ≡ body.Prepared version → ⊥)
    → ((t : Parcel) → b ≡ body.Taken t → ⊥) → ((number : ℕ) → b ≡ body.Given number → ⊥) → heard g from b ≡ quiet g
not_heard g from body.Fetch fetch recovered prepared taken given = absurd (fetch refl)
not_heard g from (body.Recovered r) fetch recovered prepared taken given = absurd (recovered r refl)
not_heard g from (body.Prepared version) fetch recovered prepared taken given = absurd (prepared version refl)
not_heard g from (body.Taken t) fetch recovered prepared taken given = absurd (taken t refl)
not_heard g from (body.Given number) fetch recovered prepared taken given = absurd (given number refl)
not_heard g from _ fetch recovered prepared taken given = refl

-- other messages change nothing
pub left_alone : (g : ManagerState) (from : NodeId) (b : Body) (done : Done) → (b ≡ body.Fetch → ⊥) → ((r : Recovered) → b ≡ body.Recovered r → ⊥) → ((version : ℕ) → b ≡ body.Prepared version → ⊥)
    → ((t : Parcel) → b ≡ body.Taken t → ⊥) → ((number : ℕ) → b ≡ body.Given number → ⊥) → done ≡ record { refused = 0; sent = []; invoked = None; completed = None } → Makes g done (on_manager g from b)
unfolding on_manager
left_alone g from b done fetch recovered prepared taken given is =
    subst (λ (m : Moved ManagerState). Makes g done (unless_numbers_end g m)) (sym (not_heard g from b fetch recovered prepared taken given))
    (subst (λ (m : Moved ManagerState). Makes g done m) (sym (stands g (quiet g) refl refl)) (refl, is))

-- a nudge isn't refused
pub nudge_goes : (g : ManagerState) → (manager_ordered g local.Nudge).refused ≡ 0
unfolding model.nudge
nudge_goes g = ap (λ (m : Moved ManagerState). m.refused) (nudge_made g)
