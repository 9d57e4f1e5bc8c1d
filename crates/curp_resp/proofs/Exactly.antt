-- Each answer comes exactly where it is due.
use Rattle.std.proofs.Common.{◌≡◌, ◌≢◌, ℕ, List, refl, ap, sym, ◌∙◌}
use Rattle.curp_resp.specs.Input.{StandsFirst, place_behind}
use Rattle.curp_resp.specs.Meaning.{meaning}
use Rattle.curp_resp.specs.Next.{BreaksOffAt, IsNextRequest}
use Rattle.curp_resp.specs.declared.requests.NextRequest.{NextRequest}
use Rattle.curp_resp.specs.declared.requests.NextRequest.TheVariants as next
use Rattle.curp_resp.proofs.Prefixes.{one_place, one_stands_first, some_ahead}

pub asked_due : (bytes : List ℕ) (passed : ℕ) (answer : NextRequest) (rest : List ℕ) (passed_then : ℕ) → IsNextRequest bytes passed answer rest passed_then → answer ≢ next.ReadFault
    → (arguments : List (List ℕ)) (left : List ℕ) → StandsFirst bytes arguments left → answer ≡ next.Asked (meaning arguments)
asked_due bytes passed (next.Asked given) rest passed_then h sure arguments left stands =
    let one = one_stands_first bytes h.arguments arguments rest left (record { spelled = h.spelled; request = h.request; is = h.left }) stands in
    ap (λ g. next.Asked g) (h.meant ∙ ap meaning one.0)
asked_due bytes passed next.End rest passed_then h sure arguments left stands = absurd (some_ahead bytes arguments left stands h.0)
asked_due bytes passed next.ReadFault rest passed_then h sure arguments left stands = absurd (sure refl)
asked_due bytes passed (next.BadRequest at) rest passed_then h sure arguments left stands = absurd (h.broken.none arguments left stands)

pub bad_where : (bytes : List ℕ) (passed : ℕ) (answer : NextRequest) (rest : List ℕ) (passed_then at : ℕ) → IsNextRequest bytes passed answer rest passed_then
    → answer ≡ next.BadRequest at → BreaksOffAt bytes passed at
bad_where bytes passed (next.Asked given) rest passed_then at h e = absurd cc
bad_where bytes passed next.End rest passed_then at h e = absurd cc
bad_where bytes passed next.ReadFault rest passed_then at h e = absurd cc
bad_where bytes passed (next.BadRequest told) rest passed_then at h e =
    let same : told ≡ at = cc in
    (h.place, h.broken, sym same ∙ h.told)

pub bad_due : (bytes : List ℕ) (passed : ℕ) (answer : NextRequest) (rest : List ℕ) (passed_then at : ℕ) → IsNextRequest bytes passed answer rest passed_then → answer ≢ next.ReadFault
    → BreaksOffAt bytes passed at → answer ≡ next.BadRequest at
bad_due bytes passed (next.Asked given) rest passed_then at h sure off =
    absurd (off.1.none h.arguments rest (record { spelled = h.spelled; request = h.request; is = h.left }))
bad_due bytes passed next.End rest passed_then at h sure off = absurd (off.1.some h.0)
bad_due bytes passed next.ReadFault rest passed_then at h sure off = absurd (sure refl)
bad_due bytes passed (next.BadRequest told) rest passed_then at h sure off =
    ap (λ a. next.BadRequest a)
    (h.told ∙ ap (λ k. place_behind passed k) (one_place bytes h.place off.0 h.broken.longest off.1.longest) ∙ sym off.2)
