-- What a draft that was weighed as a whole makes of a call: a refusal of the least number, or another board.
use Rattle.std.proofs.Common.{◌≡◌, ℕ, ◌<◌, List, ◌++◌, refl, subst, inl, inr, arith, lit<}
use mathlib.Core.Path.{subst⁻¹}
use Rattle.book.specs.declared.refusal.Cause.{Cause}
use Rattle.book.specs.declared.refusal.Refusal.{Refusal}
use Rattle.book.specs.Numbers.{number_of}
use Rattle.book.specs.Book.{Book}
use Rattle.book.specs.Refusals.{Any, Least, lent, whole, NoneApplies}
use Rattle.book.specs.Calls.{changing, ChangeRefuses, WouldMake, RefusedAt, line_of}
use Rattle.book.specs.Outcomes.{done, Outcome}
use Rattle.book.proofs.Ladder.{above}
use Rattle.tables.specs.declared.tables.Tables.{Tables}
use Rattle.soundness.specs.declared.valid.Valid.{Valid}
use Rattle.deciding.specs.declared.runs.RunStep.{RunStep}
use Rattle.drafts.specs.Neat.{Neat}
use Rattle.drafts.specs.View.{book_of}
use Rattle.weighing.specs.Weighing.{Passes, Falls}
use Rattle.entering.specs.Changing.{Makeable}
use Rattle.entering.specs.Opening.{Early}
use Rattle.board.proofs.Changing.{Lasting}

-- a whole board is refused at no line, and with a number from 15 on
from_fifteen : (z : Book) (n : ℕ) → Any (whole z) n → 14 < n
from_fifteen z n any = let h = above 14 n (whole z) (lit< tt, (lit< tt, (lit< tt, (lit< tt, tt)))) any in omega (arith, h)

no_line : (list work : ℕ) (z : Book) (n : ℕ) → Any (lent list work ++ whole z) n → 0 ≡ line_of n
no_line list work z n (inl (is, h)) = subst (λ (k : ℕ). 0 ≡ line_of k) is refl
no_line list work z n (inr (inl (is, h))) = subst (λ (k : ℕ). 0 ≡ line_of k) is refl
no_line list work z n (inr (inr (inl (is, h)))) = subst (λ (k : ℕ). 0 ≡ line_of k) is refl
no_line list work z n (inr (inr (inr (inl (is, h))))) = subst (λ (k : ℕ). 0 ≡ line_of k) is refl
no_line list work z n (inr (inr (inr (inr (inl (is, h)))))) = subst (λ (k : ℕ). 0 ≡ line_of k) is refl
no_line list work z n (inr (inr (inr (inr (inr h))))) = absurd h

module _ (b : Book) (text : List ℕ) (list work : ℕ) (z : Book) where
  module _ (made : Makeable b text list work z) where
    pub would_make : WouldMake b text z
    would_make = (made.change, made.said, made.makes)

    refuses : (n : ℕ) → Any (lent list work ++ whole z) n → ChangeRefuses b text list work n
    refuses n (inl (is, short)) = inl (inr (inr (inr (inr (inr (inl (is, short)))))))
    refuses n (inr any) = inr (made.change, made.said, inr (z, made.makes, any))

    pub change_refused : (n : ℕ) → Least (lent list work ++ whole z) n → RefusedAt b (changing text list work) n 0
    change_refused n x = (
      record { refuses = refuses n x.applies; least = λ m h. x.least m (inr (made.left m h)) },
      no_line list work z n x.applies,
    )

    pub changed : NoneApplies (lent list work ++ whole z) → Outcome b (changing text list work) done z
    changed none = ((λ n l refused. none.none n (inr (made.left n refused.0.refuses))), tt, would_make)

-- the board that is committed: its tables are those of the draft
module _ (t : Tables) (list after : List RunStep) (work : ℕ) (v : Valid) (passes : Passes t list work v after) where
  pub still_neat : ((Neat t → ⊥) → ⊥) → (Neat v.tables → ⊥) → ⊥
  still_neat neat = subst⁻¹ (λ (x : Tables). (Neat x → ⊥) → ⊥) passes.same neat

  pub now_lasting : Lasting (book_of v.tables)
  now_lasting = subst⁻¹ (λ (x : Tables). Lasting (book_of x)) passes.same (λ k d n deny. deny (passes.stand k d n))

  pub as_drafted : (P : Book → Type 0) → P (book_of t) → P (book_of v.tables)
  as_drafted P h = subst⁻¹ (λ (x : Tables). P (book_of x)) passes.same h
