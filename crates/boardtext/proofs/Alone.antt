-- A line that nothing refuses says one thing only.
use Rattle.std.proofs.Common.{◌≡◌, ℕ, ◌+◌, ◌≤◌, max, Bool, true, false, ◌&&◌, ◌||◌, ltb, leb, List, [], ◌∷◌, ◌++◌, length, take, drop, Some, None, codes, sym, refl, ap, ◌∙◌, ap₂, arith, leb-true}
use Rattle.std.proofs.Math.Seq.{take-append_seam, drop-append_seam}
use Rattle.std.proofs.lemmas.Bool.{and_parts}
use Rattle.std.proofs.lemmas.List.{append_cancel_left}
use Rattle.meaning.specs.Measures as measures
use Rattle.meaning.specs.Sets.{as_condition, Question}
use Rattle.meaning.specs.Requirements.{always, never}
use Rattle.meaning.specs.Lists.{listed}
use Rattle.grammar.specs.declared.sizes.Size.{Size}
use Rattle.grammar.specs.Text.{begins_digit, is_letter, run}
use Rattle.grammar.specs.Phrase.{set, Phrase, render, meaning, levels, operands, in_range, Written, Ends}
use Rattle.grammar.specs.Scan.{size_of, ok}
use Rattle.grammar.proofs.Sound.{found}
use Rattle.trees.specs.Reading.{Small}
use Rattle.lines.specs.declared.keyword.Keyword.{Keyword}
use Rattle.lines.specs.declared.keyword.Keyword.TheVariants.{Ua, Pa, Rh, Trust, Assign, Revoke, Always, Never, Possible, Necessary}
use Rattle.lines.specs.Entries.{AllShort, all_below, entry_at, entry_bytes}
use Rattle.lines.specs.Languages.{Language, Says, Unrefused, Told}
use Rattle.lines.specs.Bodies.{deepest, roles_in, Users, users_in, trusts, Clause, always_true, in_set, clause_bytes, ProperClause, clause_ranged, clause_small, condition, Assigning, assigns, Sides, sides, question_of, RoleListing, role_listings}
use Rattle.lines.specs.Clauses.{size_in, sized, Clauses}
use Rattle.lines.specs.Lines.{Sentence, word, bodies, asks, lines, Fine}
use Rattle.lines.proofs.Entering.{entry_written, entries_first}
use Rattle.lines.proofs.Rowing.{some_is, no_some, got_is}
use Rattle.lines.proofs.Assigning.{clause_true}
use Rattle.lines.proofs.Judging.{verdict, told}
use Rattle.texts.specs.Words.{Starts}
use Rattle.texts.proofs.Starting.{spelt_so, letters_word, whole_unrefused, whole_told}
use Rattle.trees.proofs.Single.{one_reading}
use Rattle.book.specs.Book.{Entry}
use Rattle.book.specs.Book as entry
use Rattle.book.specs.Says.{entry_of, line_entry}

-- ---- the parts of a line

-- two sets at the front of one text have one size and one end
same_size : (s x y : List ℕ) (p q : Phrase set) → Written s p x → Written s q y → Ends x → Ends y → (size_of p ≡ size_of q) × (x ≡ y)
same_size s x y p q v w e f = let h : ok (size_of p) x ≡ ok (size_of q) y = sym (found s x p v e) ∙ found s y q w f in (cc, cc)

pub same_list : (c : ℕ) (ns ms : List ℕ) → entry_bytes c ns ≡ entry_bytes c ms → AllShort ns → AllShort ms → ns ≡ ms
same_list c [] [] e h i = refl
same_list c [] (m ∷ ms) e h i = cc
same_list c (n ∷ ns) [] e h i = cc
same_list c (n ∷ ns) (m ∷ ms) e h i =
    let g = got_is _ _ _ _ (sym (entry_written c n (entry_bytes c ns) h.0 (entries_first c ns)) ∙ ap (entry_at c) e ∙ entry_written c m (entry_bytes c ms) i.0 (entries_first c ms)) in
    ap₂ ◌∷◌ g.0 (same_list c ns ms g.1 h.1 i.1)

middle : (between : List ℕ) (n : ℕ) (ns : List ℕ) → begins_digit between ≡ false → begins_digit (between ++ entry_bytes 114 (n ∷ ns)) ≡ false
middle [] n ns e = refl
middle (b ∷ bs) n ns e = e

row_is : (x y : RoleListing) → y.subject ≡ x.subject → roles_in y ≡ roles_in x → x ≡ y
row_is x y e f =
    let a : y.first ≡ x.first = cc in
    let b : y.more ≡ x.more = cc in
    sym (ap (λ n. row_of n y.first y.more) e ∙ ap₂ (λ n ns. row_of x.subject n ns) a b)
  where
    row_of : ℕ → ℕ → List ℕ → RoleListing
    row_of n m ms = record { subject = n; first = m; more = ms }

same_row : (letter limit : ℕ) (between : List ℕ) → begins_digit between ≡ false → (y : RoleListing) → (role_listings letter limit between).proper y → (x : RoleListing) → Says (role_listings letter limit between) ((role_listings letter limit between).bytes y) x → x ≡ y
same_row letter limit between free y h x w =
    let g = got_is _ _ _ _ (sym (entry_written letter y.subject (between ++ entry_bytes 114 (roles_in y)) h.0 (middle between y.first y.more free)) ∙ ap (entry_at letter) w.0
    ∙ entry_written letter x.subject (between ++ entry_bytes 114 (roles_in x)) w.1.0 (middle between x.first x.more free)) in
    row_is x y g.0 (same_list 114 (roles_in y) (roles_in x) (append_cancel_left between _ _ g.1) h.1 w.1.1)

users_are : (x y : Users) → users_in y ≡ users_in x → x ≡ y
users_are x y e =
    let a : y.first ≡ x.first = cc in
    let b : y.more ≡ x.more = cc in
    sym (ap₂ users_of a b)
  where
    users_of : ℕ → List ℕ → Users
    users_of m ms = record { first = m; more = ms }

-- ---- one thing only

-- whatever else says the text of the form is weighed as it is, and names the same
record Alone (L : Language) (names : L.Form → Entry) (y : L.Form) : Type 0 where
  ranged : (x : L.Form) → Says L (L.bytes y) x → L.ranged x ≡ L.ranged y
  small : (x : L.Form) → Says L (L.bytes y) x → L.small x ≡ L.small y
  semi_static : (x : L.Form) → Says L (L.bytes y) x → L.semi_static x ≡ L.semi_static y
  names_same : (x : L.Form) → Says L (L.bytes y) x → names x ≡ names y

module _ (L : Language) (names : L.Form → Entry) (y : L.Form) where
  by_form : ((x : L.Form) → Says L (L.bytes y) x → x ≡ y) → Alone L names y
  by_form h = record { ranged = λ x w. ap L.ranged (h x w); small = λ x w. ap L.small (h x w); semi_static = λ x w. ap L.semi_static (h x w); names_same = λ x w. ap names (h x w) }

  unrefused : L.proper y → L.ranged y ≡ true → L.small y ≡ true → L.semi_static y ≡ true → Alone L names y → Unrefused L (L.bytes y)
  unrefused p r m s a = verdict L (L.bytes y) true true true (record { some = (y, (refl, p)); ranged = λ x w. a.ranged x w ∙ r; small = λ x w. a.small x w ∙ m; semi_static = λ x w. a.semi_static x w ∙ s })

  one_entry : L.proper y → Alone L names y → Told L (L.bytes y) (λ x. names x ≡ names y)
  one_entry p a = told L (L.bytes y) (y, (refl, p)) a.names_same

-- ---- conditions

size_ranged : (c : Clause) → (sized (size_in c)).fits ≡ clause_ranged c
size_ranged always_true = refl
size_ranged (in_set p) = refl

size_small : (c : Clause) → (leb (sized (size_in c)).operands measures.condition_operands && leb (sized (size_in c)).levels deepest) ≡ clause_small c
size_small always_true = refl
size_small (in_set p) = refl

true_first : (s x : List ℕ) → s ≡ codes "true" ++ x → Clauses s (Some None) x
true_first s x e = clause_true s x (record { found = λ y f. (refl, append_cancel_left (codes "true") x y (sym e ∙ f)); real = λ f. e; kept = λ f. cc })

same_clause : (s x y : List ℕ) (c d : Clause) → s ≡ clause_bytes c ++ x → s ≡ clause_bytes d ++ y → ProperClause c → ProperClause d → Ends x → Ends y → (size_in c ≡ size_in d) × (x ≡ y)
same_clause s x y always_true d e f h i n m = let k = (true_first s x e).found d y f i m in (some_is _ _ k.0, k.1)
same_clause s x y (in_set p) always_true e f h i n m = let k = (true_first s y f).found (in_set p) x e h n in no_some _ (some_is _ _ k.0)
same_clause s x y (in_set p) (in_set q) e f h i n m =
    let k = same_size s x y p q (record { bytes = e; short = h.0 }) (record { bytes = f; short = i.0 }) n m in (ap Some k.0, k.1)

small_clause : (p : Phrase set) → clause_ranged (in_set p) ≡ true → clause_small (in_set p) ≡ true → Small deepest p
small_clause p r m =
    let q = and_parts (leb (operands (meaning p)) measures.condition_operands) (leb (levels p) deepest) m in
    let o = leb-true (operands (meaning p)) measures.condition_operands q.0 in
    record { range = r; deep = leb-true (levels p) deepest q.1; many = omega arith }

same_condition : (s x y : List ℕ) (c d : Clause) → s ≡ clause_bytes c ++ x → s ≡ clause_bytes d ++ y → ProperClause c → ProperClause d → Ends x → Ends y
    → clause_ranged c ≡ true → clause_small c ≡ true → clause_ranged d ≡ true → clause_small d ≡ true → condition c ≡ condition d
same_condition s x y always_true always_true e f h i n m rc mc rd md = refl
same_condition s x y always_true (in_set q) e f h i n m rc mc rd md = no_some _ (same_clause s x y always_true (in_set q) e f h i n m).0
same_condition s x y (in_set p) always_true e f h i n m rc mc rd md = no_some _ (sym (same_clause s x y (in_set p) always_true e f h i n m).0)
same_condition s x y (in_set p) (in_set q) e f h i n m rc mc rd md =
    ap as_condition (one_reading deepest s x y p q (small_clause p rc mc) (small_clause q rd md) (record { bytes = e; short = h.0 }) (record { bytes = f; short = i.0 }) n m).0

colon_ends : (ns : List ℕ) → Ends (codes " :" ++ entry_bytes 114 ns)
colon_ends ns = record { no_and = refl; no_or = refl; no_digit = refl }

module _ (y : Assigning) (h : assigns.proper y) (r : assigns.ranged y ≡ true) (m : assigns.small y ≡ true) where
  module _ (x : Assigning) (w : Says assigns (assigns.bytes y) x) where
    abbrev behind : Assigning → List ℕ
    behind z = codes " :" ++ entry_bytes 114 (roles_in z.row)

    first_same : (y.row.subject ≡ x.row.subject) × (codes " : " ++ (clause_bytes y.clause ++ behind y) ≡ codes " : " ++ (clause_bytes x.clause ++ behind x))
    first_same = got_is _ _ _ _ (sym (entry_written 114 y.row.subject (codes " : " ++ (clause_bytes y.clause ++ behind y)) h.0 refl) ∙ ap (entry_at 114) w.0 ∙ entry_written 114 x.row.subject (codes " : " ++ (clause_bytes x.clause ++ behind x)) w.1.0 refl)

    here : clause_bytes y.clause ++ behind y ≡ clause_bytes x.clause ++ behind x
    here = append_cancel_left (codes " : ") _ _ first_same.1

    clauses_same : (size_in y.clause ≡ size_in x.clause) × (behind y ≡ behind x)
    clauses_same = same_clause (clause_bytes y.clause ++ behind y) (behind y) (behind x) y.clause x.clause refl here h.2 w.1.2 (colon_ends (roles_in y.row)) (colon_ends (roles_in x.row))

    rows_same : x.row ≡ y.row
    rows_same = row_is x.row y.row first_same.0 (same_list 114 (roles_in y.row) (roles_in x.row) (append_cancel_left (codes " :") _ _ clauses_same.1) h.1 w.1.1)

    ranged_same : clause_ranged x.clause ≡ clause_ranged y.clause
    ranged_same = sym (size_ranged x.clause) ∙ ap (λ z. (sized z).fits) (sym clauses_same.0) ∙ size_ranged y.clause

    small_same : clause_small x.clause ≡ clause_small y.clause
    small_same = sym (size_small x.clause) ∙ ap (λ z. leb (sized z).operands measures.condition_operands && leb (sized z).levels deepest) (sym clauses_same.0) ∙ size_small y.clause

    clause_fits : clause_ranged y.clause ≡ true
    clause_fits = (and_parts (clause_ranged y.clause) _ (and_parts (ltb y.row.subject measures.roles) _ r).1).0

    conditions_same : condition x.clause ≡ condition y.clause
    conditions_same = sym (same_condition (clause_bytes y.clause ++ behind y) (behind y) (behind x) y.clause x.clause refl here h.2 w.1.2 (colon_ends (roles_in y.row)) (colon_ends (roles_in x.row))
        clause_fits m (ranged_same ∙ clause_fits) (small_same ∙ m))

  alone_assign : Alone assigns (entry_of Assign) y
  alone_assign = record {
    ranged = λ x w. ap₂ (λ (z : RoleListing) (b : Bool). ltb z.subject measures.roles && (b && all_below measures.roles (roles_in z))) (rows_same x w) (ranged_same x w);
    small = λ x w. small_same x w;
    semi_static = λ x w. refl;
    names_same = λ x w. ap₂ (λ (z : RoleListing) c. entry.assigns (record { admin = z.subject; condition = c; targets = listed (roles_in z) }) (roles_in z)) (rows_same x w) (conditions_same x w);
  }

-- ---- two sides

abbrev between : List ℕ
between = codes " >= "

module _ (y : Sides) (h : sides.proper y) where
  module _ (x : Sides) (w : Says sides (sides.bytes y) x) where
    sides_here : render y.larger ++ (between ++ render y.smaller) ≡ render x.larger ++ (between ++ render x.smaller)
    sides_here = append_cancel_left (32 ∷ []) _ _ w.0

    between_ends : (s : List ℕ) → Ends (between ++ s)
    between_ends s = record { no_and = refl; no_or = refl; no_digit = refl }

    first_written : Written (render y.larger ++ (between ++ render y.smaller)) y.larger (between ++ render y.smaller)
    first_written = record { bytes = refl; short = h.0 }

    other_written : Written (render y.larger ++ (between ++ render y.smaller)) x.larger (between ++ render x.smaller)
    other_written = record { bytes = sides_here; short = w.1.0 }

    lefts : (size_of y.larger ≡ size_of x.larger) × (between ++ render y.smaller ≡ between ++ render x.smaller)
    lefts = same_size _ _ _ y.larger x.larger first_written other_written (between_ends (render y.smaller)) (between_ends (render x.smaller))

    second_written : Written (render y.smaller ++ []) y.smaller []
    second_written = record { bytes = refl; short = h.1 }

    last_written : Written (render y.smaller ++ []) x.smaller []
    last_written = record { bytes = ap (λ s. s ++ []) (append_cancel_left between _ _ lefts.1); short = w.1.1 }

    none_ends : Ends []
    none_ends = record { no_and = refl; no_or = refl; no_digit = refl }

    rights : size_of y.smaller ≡ size_of x.smaller
    rights = (same_size _ _ _ y.smaller x.smaller second_written last_written none_ends none_ends).0

    sides_ranged : sides.ranged x ≡ sides.ranged y
    sides_ranged = sym (ap₂ (λ (a b : Size). a.fits && b.fits) lefts.0 rights)

    sides_small : sides.small x ≡ sides.small y
    sides_small = sym (ap₂ (λ (a b : Size). leb (a.operands + b.operands) measures.question_operands && leb (max a.levels b.levels) deepest) lefts.0 rights)

    sides_static : sides.semi_static x ≡ sides.semi_static y
    sides_static = sym (ap₂ (λ (a b : Size). a.fixed || b.fixed) lefts.0 rights)

    module _ (r : sides.ranged y ≡ true) (m : sides.small y ≡ true) where
      two_small : (z : Sides) → sides.ranged z ≡ true → sides.small z ≡ true → Small deepest z.larger × Small deepest z.smaller
      two_small z a b =
          let p = and_parts (in_range (meaning z.larger)) (in_range (meaning z.smaller)) a in
          let q = and_parts (leb (operands (meaning z.larger) + operands (meaning z.smaller)) measures.question_operands) (leb (max (levels z.larger) (levels z.smaller)) deepest) b in
          let o : operands (meaning z.larger) + operands (meaning z.smaller) ≤ measures.question_operands = leb-true _ _ q.0 in
          let l : max (levels z.larger) (levels z.smaller) ≤ deepest = leb-true _ _ q.1 in
          (record { range = p.0; deep = omega arith; many = omega arith }, record { range = p.1; deep = omega arith; many = omega arith })

      questions_same : question_of x ≡ question_of y
      questions_same =
          let a = two_small y r m in
          let b = two_small x (sides_ranged ∙ r) (sides_small ∙ m) in
          ap₂ (λ l s. record { larger = l; smaller = s })
          (sym (one_reading deepest _ _ _ y.larger x.larger a.0 b.0 first_written other_written (between_ends (render y.smaller)) (between_ends (render x.smaller))).0)
          (sym (one_reading deepest _ _ _ y.smaller x.smaller a.1 b.1 second_written last_written none_ends none_ends).0)

  alone_sides : (k : Question → Entry) → sides.ranged y ≡ true → sides.small y ≡ true → Alone sides (λ x. k (question_of x)) y
  alone_sides k r m = record {
    ranged = λ x w. sides_ranged x w;
    small = λ x w. sides_small x w;
    semi_static = λ x w. sides_static x w;
    names_same = λ x w. ap k (questions_same x w r m);
  }

-- ---- a line

alone : (k : Keyword) → asks k ≡ false → (y : (bodies k).Form) → (bodies k).proper y → (bodies k).ranged y ≡ true → (bodies k).small y ≡ true → Alone (bodies k) (entry_of k) y
alone Ua a y h r m = by_form (bodies Ua) (entry_of Ua) y (same_row 117 measures.users [] refl y h)
alone Pa a y h r m = by_form (bodies Pa) (entry_of Pa) y (same_row 112 measures.permissions [] refl y h)
alone Rh a y h r m = by_form (bodies Rh) (entry_of Rh) y (same_row 114 measures.roles [] refl y h)
alone Trust a y h r m = by_form trusts (entry_of Trust) y (λ x w. users_are x y (same_list 117 (users_in y) (users_in x) w.0 h w.1))
alone Assign a y h r m = alone_assign y h r m
alone Revoke a y h r m = by_form (bodies Revoke) (entry_of Revoke) y (same_row 114 measures.roles (codes " :") refl y h)
alone Always a y h r m = alone_sides y h (λ q. entry.requires (always q)) r m
alone Never a y h r m = alone_sides y h (λ q. entry.requires (never q)) r m
alone Possible a y h r m = cc
alone Necessary a y h r m = cc

keyword_is : (k j : Keyword) (x y : List ℕ) → word k ++ 32 ∷ x ≡ word j ++ 32 ∷ y → (Some k ≡ Some j) × (32 ∷ x ≡ 32 ∷ y)
keyword_is k j x y e =
    let n : length (word k) ≡ length (word j) = sym (letters_word k x) ∙ ap (run is_letter) e ∙ letters_word j y in
    let w : word k ≡ word j = sym (take-append_seam (word k) (32 ∷ x)) ∙ ap₂ take n e ∙ take-append_seam (word j) (32 ∷ y) in
    (sym ((spelt_so (word k)).found k refl) ∙ (spelt_so (word k)).found j w, sym (drop-append_seam (word k) (32 ∷ x)) ∙ ap₂ drop n e ∙ drop-append_seam (word j) (32 ∷ y))

starts : (k : Keyword) (s x : List ℕ) → s ≡ 32 ∷ x → Starts (word k ++ s) (Some k) s
starts k s x e = record {
  found = λ j y f. let g = keyword_is k j x y (ap (λ t. word k ++ t) (sym e) ∙ f) in (g.0, e ∙ g.1);
  real = λ j f. ap (λ (i : Keyword). word i ++ s) (some_is _ _ f);
}

blank : (k : Keyword) (b : (bodies k).Form) → (x : List ℕ) × ((bodies k).bytes b ≡ 32 ∷ x)
blank Ua b = (_, refl)
blank Pa b = (_, refl)
blank Rh b = (_, refl)
blank Trust b = (_, refl)
blank Assign b = (_, refl)
blank Revoke b = (_, refl)
blank Always b = (_, refl)
blank Never b = (_, refl)
blank Possible b = (_, refl)
blank Necessary b = (_, refl)

-- nothing refuses its text, and whatever says that text names the same
pub record Lone (x : Sentence) : Type 0 where
  pub unrefused : Unrefused lines (lines.bytes x)
  pub names : (y : Sentence) → Says lines (lines.bytes x) y → line_entry y ≡ line_entry x

pub lone_line : (x : Sentence) → Fine x → Lone x
lone_line x h =
    let k = x.keyword in
    let a = alone k h.proper.0 x.body h.proper.1 h.ranged h.small in
    let b = blank k x.body in
    let s = starts k ((bodies k).bytes x.body) b.0 b.1 in
    record {
      unrefused = whole_unrefused false (lines.bytes x) ((bodies k).bytes x.body) k s h.proper.0 (unrefused (bodies k) (entry_of k) x.body h.proper.1 h.ranged h.small h.semi_static a);
      names = (whole_told false (lines.bytes x) ((bodies k).bytes x.body) k s h.proper.0 (λ y. line_entry y ≡ line_entry x) (one_entry (bodies k) (entry_of k) x.body h.proper.1 a)).every;
    }
