-- One call more.
use Rattle.std.proofs.Common.{◌≡◌, ℕ, ◌≤◌, List, [], ◌∷◌, ◌++◌, min, length, take, drop, Result, refl, ap, ◌∙◌, subst, subst₂, arith}
use Rattle.std.proofs.lemmas.List.{length-take-le}
use Rattle.book.specs.declared.refusal.Refusal.{Refusal}
use Rattle.stories.specs.declared.call.Reply.{Reply}
use Rattle.stories.specs.Calls.{Called}
use mathlib.Core.Path.{subst⁻¹}
use Rattle.book.specs.Book.{Book, new_book}
use Rattle.book.specs.Calls.{Call}
use Rattle.book.specs.Outcomes.{Answer}
use Rattle.book.specs.Stories.{Promised, Leads, IsReached}
use Rattle.deciding.specs.declared.runs.RunStep.{RunStep}
use Rattle.stories.specs.declared.turn.Turn.{Turn}
use Rattle.stories.specs.Told.{Turned, Told}

leads_on : (b m z : Book) (calls : List (Call × Answer)) (c : Call) (a : Answer) → Leads b calls m → Promised m c a z → Leads b (calls ++ (c, a) ∷ []) z
leads_on b m z [] c a led next = (z, subst (λ (x : Book). Promised x c a z) led next, refl)
leads_on b m z (x ∷ calls) c a (y, first, rest) next = (y, first, leads_on y m z calls c a rest next)

pub reached_on : (m z : Book) (c : Call) (a : Answer) → Promised m c a z → IsReached m → IsReached z
reached_on m z c a next (calls, led) = (calls ++ (c, a) ∷ [], leads_on new_book m z calls c a led next)

-- one turn more at the end of a story
pub one_turn : (words : ℕ) (b m z : Book) (list mid left : List RunStep) (ts : List Turn) (t : Turn) → Told words b list ts m mid → Turned words m mid t z left → Told words b list (ts ++ t ∷ []) z left
one_turn words b m z list mid left [] t (same, kept) turned =
    (z, left, subst (λ (x : Book). Turned words x list t z left) same (subst (λ (xs : List RunStep). Turned words m xs t z left) kept turned), (refl, refl))
one_turn words b m z list mid left (x ∷ ts) t (y, l, first, rest) turned = (y, l, first, one_turn words y m z l mid left ts t rest turned)

-- a turn that was made, lent the first places and words
pub turned : (words : ℕ) (b z : Book) (list front : List RunStep) (ws : List ℕ) (t : Turn) (places given : ℕ) (result : Result Reply Refusal)
    → places ≡ min t.list (length list) → given ≡ min t.work (length ws) → length ws ≡ words → Called t.call (take places list) (length (take given ws)) b result z front
    → Turned words b list (record { call = t.call; list = t.list; work = t.work; answer = result }) z (front ++ drop places list)
turned words b z list front ws t places given result p g w called =
    let less : given ≤ length ws = omega (arith, g) in
    let work : length (take given ws) ≡ min t.work words = length-take-le given ws less ∙ g ∙ ap (min t.work) w in
    (front, subst₂ (λ (k n : ℕ). Called t.call (take k list) n b result z front) p work called, ap (λ (k : ℕ). front ++ drop k list) p)
