-- The ways of an officer's change through the table of refusals.
use Rattle.std.proofs.Common.{◌≡◌, ℕ, ◌<◌, ◌≤◌, ◌⊎◌, List, Ok, Err, refl, subst, inl, inr, arith, lit<}
use Rattle.meaning.specs.Measures.{list_places, work_words}
use Rattle.grammar.specs.declared.grounds.Ground.TheVariants.{Syntax, Range, Measure, NotSemiStatic}
use Rattle.lines.specs.declared.change.Extra.{Extra}
use Rattle.lines.specs.Languages.{Says, Told}
use Rattle.lines.specs.Lines.{Fine, lines}
use Rattle.texts.specs.declared.faults.Fault.{Fault}
use Rattle.texts.specs.declared.faults.Fault.TheVariants as fault
use Rattle.texts.specs.declared.faults.Fault.TheVariants.{InLine}
use Rattle.texts.specs.declared.faults.Order.{Order}
use Rattle.texts.specs.declared.faults.Way.{Way}
use Rattle.texts.specs.declared.faults.Way.TheVariants.{Add, Remove}
use Rattle.texts.specs.Answers.{told, Faulty, Changing, changes}
use Rattle.book.specs.declared.refusal.Cause.{Cause}
use Rattle.book.specs.declared.refusal.Refusal.{Refusal}
use Rattle.book.specs.Numbers.{number_of}
use Rattle.book.specs.Faults.{refusal_of}
use Rattle.book.specs.Book.{Book, Entry}
use Rattle.book.specs.Refusals.{Any, Least, lent, entered, whole, NoneApplies}
use Rattle.meaning.specs.Ranks.{rank}
use Rattle.book.specs.Calls.{LeastOf, ChangeRefuses, line_of}
use Rattle.book.specs.Entering.{Entered, Readable}
use Rattle.book.specs.Orderly.{Once}
use Rattle.book.proofs.Ladder.{above, pass, end, here}
use Rattle.book.proofs.Made.{one_book}
use Rattle.book.proofs.Tabled.{tabled, faultless, first_others, faulty}
use Rattle.entering.specs.Changing.{Makeable}
use Rattle.entering.specs.Opening.{Early}
use Rattle.entering.proofs.Lined.{is_so, from_eight, to_fourteen}
use Rattle.book.specs.Says.{line_entry}
use Rattle.texts.specs.Sentences.{Orders}

-- a whole board is refused with a number from 15 on
pub from_fifteen : (z : Book) (n : ℕ) → Any (whole z) n → 14 < n
from_fifteen z n any = let h = above 14 n (whole z) (lit< tt, (lit< tt, (lit< tt, (lit< tt, tt)))) any in omega (arith, h)

fault_small : (f : Fault) → number_of (refusal_of f).cause < 7
fault_small fault.TooLong = lit< tt
fault_small fault.Mark = lit< tt
fault_small (InLine Syntax n) = lit< tt
fault_small (InLine Range n) = lit< tt
fault_small (InLine Measure n) = lit< tt
fault_small (InLine NotSemiStatic n) = lit< tt

-- what a line names is refused at line 1
line_one : (w : Way) (b : Book) (e : Entry) (n : ℕ) → Any (entered w b e) n → 1 ≡ line_of n
line_one Add b e n (inl (is, h)) = subst (λ (k : ℕ). 1 ≡ line_of k) is refl
line_one Add b e n (inr (inl (is, h))) = subst (λ (k : ℕ). 1 ≡ line_of k) is refl
line_one Add b e n (inr (inr (inl (is, h)))) = subst (λ (k : ℕ). 1 ≡ line_of k) is refl
line_one Add b e n (inr (inr (inr (inl (is, h))))) = subst (λ (k : ℕ). 1 ≡ line_of k) is refl
line_one Add b e n (inr (inr (inr (inr h)))) = absurd h
line_one Remove b e n (inl (is, h)) = subst (λ (k : ℕ). 1 ≡ line_of k) is refl
line_one Remove b e n (inr (inl (is, h))) = subst (λ (k : ℕ). 1 ≡ line_of k) is refl
line_one Remove b e n (inr (inr (inl (is, h)))) = subst (λ (k : ℕ). 1 ≡ line_of k) is refl
line_one Remove b e n (inr (inr (inr h))) = absurd h

-- a list and a work table that are long enough are not too short
pub long_enough : (list work : ℕ) → list_places ≤ list → work_words ≤ work → (list < list_places) ⊎ (work < work_words) → ⊥
long_enough list work a b (inl l) = omega (arith, a, l)
long_enough list work a b (inr l) = omega (arith, b, l)

module _ (b : Book) (text : List ℕ) (list work : ℕ) where
  abbrev pub Answers : Refusal → Type 0
  Answers e = LeastOf (ChangeRefuses b text list work) (number_of e.cause) × (e.line ≡ line_of (number_of e.cause)) × Early e

  -- a row of the text's own, or of what is lent, comes before what the line names
  of_text : (n : ℕ) → n < 8 → Least (tabled changes text (lent list work) (lit< tt, tt)) n → LeastOf (ChangeRefuses b text list work) n
  of_text n small x = record { refuses = inl x.applies; least = go }
    where
      go : (m : ℕ) → ChangeRefuses b text list work m → rank n ≤ rank m
      go m (inl any) = x.least m any
      go m (inr (f, said, inl any)) = let l = from_eight f.way b (line_entry f.line) m any in omega (arith, l, small)
      go m (inr (f, said, inr (z, makes, any))) = let l = from_fifteen z m any in omega (arith, l, small)

  pub by_fault : (f : Fault) → Faulty changes text f → ((d : Fault) → (told d).number < (told f).number → Faulty changes text d → ⊥) → Answers (refusal_of f)
  by_fault f h less =
      let (least, line) = faulty changes text (lent list work) (lit< tt, tt) f h less in
      let l = fault_small f in
      (of_text (number_of (refusal_of f).cause) (omega (arith, l)) least, line, omega (arith, l))

  module _ (clean : (d : Fault) → Faulty changes text d → ⊥) where
    pub too_short : (list < list_places) ⊎ (work < work_words) → LeastOf (ChangeRefuses b text list work) 7
    too_short short = of_text 7 (lit< tt) (first_others changes text (lent list work) (lit< tt, tt) clean (here short tt))

    module _ (order : Order) (extra : Extra) (said : Told changes text (Orders extra order)) where
      pub fine : (f : Changing) → Says changes text f → Fine f.line
      fine f s = record {
        proper = s.1;
        ranged = is_so (lines.ranged f.line) (λ e. clean (InLine Range 1) (refl, (f, s, e)));
        small = is_so (lines.small f.line) (λ e. clean (InLine Measure 1) (refl, (f, s, e)));
        semi_static = is_so (lines.semi_static f.line) (λ e. clean (InLine NotSemiStatic 1) (refl, (f, s, e)));
      }

      abbrev pub each : (f : Changing) → Says changes text f → Readable order.change extra
      each f s = record { line = f.line; fine = fine f s; means = (said.every f s).change }

      pub readable : Readable order.change extra
      readable = each said.some.0 said.some.1

      module _ (places : list_places ≤ list) (words : work_words ≤ work) where
        untabled : NoneApplies (tabled changes text (lent list work) (lit< tt, tt))
        untabled = faultless changes text (lent list work) (lit< tt, tt) clean (pass (long_enough list work places words) end)

        module _ (z : Book) where
          pub refused : (c : Cause) → ((x : Readable order.change extra) → Entered order.way b (line_entry x.line) (Err c) z) → Answers (record { cause = c; line = 1 })
          refused c done =
              let f = said.some.0 in
              let x = by f said.some.1 in (
                record { refuses = inr (f, said.some.1, inl x.0.applies); least = go },
                line_one f.way b (line_entry f.line) (number_of c) x.0.applies,
                to_fourteen f.way b (line_entry f.line) (number_of c) x.0.applies,
              )
            where
              by : (f : Changing) → Says changes text f → Entered f.way b (line_entry f.line) (Err c) z
              by f s = subst (λ (w : Way). Entered w b (line_entry f.line) (Err c) z) (said.every f s).way (done (each f s))

              go : (m : ℕ) → ChangeRefuses b text list work m → rank (number_of c) ≤ rank m
              go m (inl any) = absurd (untabled.none m any)
              go m (inr (f, s, inl any)) = (by f s).0.least m any
              go m (inr (f, s, inr (y, makes, any))) =
                  let l = from_fifteen y m any in
                  let small = to_fourteen f.way b (line_entry f.line) (number_of c) (by f s).0.applies in
                  omega (arith, l, small)

          pub made : Once b.policy.assigns → Once b.policy.revokes → Once b.requirements
              → ((x : Readable order.change extra) → Entered order.way b (line_entry x.line) (Ok tt) z) → Makeable b text list work z
          made assigns_once revokes_once requirements_once done = record {
            change = said.some.0;
            said = said.some.1;
            makes = (by said.some.0 said.some.1).1;
            left = go;
          }
            where
              by : (f : Changing) → Says changes text f → Entered f.way b (line_entry f.line) (Ok tt) z
              by f s = subst (λ (w : Way). Entered w b (line_entry f.line) (Ok tt) z) (said.every f s).way (done (each f s))

              go : (n : ℕ) → ChangeRefuses b text list work n → Any (whole z) n
              go n (inl any) = absurd (untabled.none n any)
              go n (inr (f, s, inl any)) = absurd ((by f s).0.none n any)
              go n (inr (f, s, inr (y, makes, any))) =
                  subst (λ (x : Book). Any (whole x) n) (one_book b assigns_once revokes_once requirements_once f.way (line_entry f.line) y z makes (by f s).1) any
