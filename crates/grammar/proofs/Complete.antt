-- A phrase that stands in the text is scanned to its end, and counted.
use Rattle.std.proofs.Common.{◌≡◌, ℕ, suc, ◌+◌, max, Bool, false, ◌&&◌, List, [], ◌∷◌, ◌++◌, decimal, sym, refl, ap, ◌∙◌, append_assoc, arith}
use Rattle.grammar.specs.declared.sizes.Size.{Size}
use Rattle.grammar.specs.declared.sizes.Mode.{Mode}
use Rattle.grammar.specs.declared.sizes.Mode.TheVariants.{Operand, Sign, User, Comma, Another}
use Rattle.grammar.specs.Text.{begins_digit}
use Rattle.meaning.specs.Sets.{UserSet, members, holders, only, nobody}
use Rattle.grammar.specs.Phrase.{Kind, set, term, factor, users, Phrase, one, or, lone, and, a_role, a_permission, no_users, braces, parens, a_user, also, render, meaning, levels, Short}
use Rattle.grammar.specs.Scan.{sized, size_of, grow, at, go, pick, leaf, step, scanned}
use Rattle.grammar.proofs.Numbers.{number_written}
use Rattle.grammar.proofs.Runs.{go_on}

-- two sizes at one depth
abbrev pub join : Size → Size → Size
join a b = record { operands = a.operands + b.operands; levels = max a.levels b.levels; fits = a.fits && b.fits; fixed = a.fixed && b.fixed; roles = a.roles && b.roles }

pub and_assoc : (a b c : Bool) → ((a && b) && c) ≡ (a && (b && c))
and_assoc a b c = grind arith

max_at : (m d a b : ℕ) → max (max m (d + a)) (d + b) ≡ max m (d + max a b)
max_at m d a b = omega arith

pub size_is : (a b c d : ℕ) (e f g h i j : Bool) → a ≡ b → c ≡ d → e ≡ f → g ≡ h → i ≡ j → ◌≡◌ {A = Size} (record { operands = a; levels = c; fits = e; fixed = g; roles = i }) (record { operands = b; levels = d; fits = f; fixed = h; roles = j })
size_is a b c d e f g h i j p q r s t = cc

pub grow_grow : (d : ℕ) (m a b : Size) → grow d (grow d m a) b ≡ grow d m (join a b)
grow_grow d m a b = size_is _ _ _ _ _ _ _ _ _ _ (omega arith) (max_at m.levels d a.levels b.levels) (and_assoc m.fits a.fits b.fits) (and_assoc m.fixed a.fixed b.fixed) (and_assoc m.roles a.roles b.roles)

-- one level further in
pub grow_in : (d : ℕ) (m : Size) (t : UserSet) (l : ℕ) → grow (suc d) m (sized t l) ≡ grow d m (sized t (suc l))
grow_in d m t l = size_is _ _ _ _ _ _ _ _ _ _ refl (let h : suc d + l ≡ d + suc l = omega arith in ap (max m.levels) h) refl refl refl

-- several users in braces are one level, however many
pub users_one : (us : Phrase users) → max (levels us) 1 ≡ 1
users_one (a_user n) = refl
users_one (also us n) = refl

abbrev pub enter : Kind → Mode
enter set = Operand
enter term = Operand
enter factor = Operand
enter users = User

abbrev pub leave : Kind → Mode
leave set = Sign
leave term = Sign
leave factor = Sign
leave users = Comma

-- what stands in braces does not begin with a closing one
inner : (us : Phrase users) (y : List ℕ) (d : ℕ) (m : Size) → pick 125 (render us ++ y) (λ s2. go (at Sign d (grow d m (sized nobody 0))) s2) (go (at User d m) (render us ++ y)) ≡ go (at User d m) (render us ++ y)
inner (a_user i) y d m = refl
inner (also us i) y d m =
    let e = append_assoc (render us) (44 ∷ 117 ∷ decimal i) y in
    ap (λ l. pick 125 l (λ s2. go (at Sign d (grow d m (sized nobody 0))) s2) (go (at User d m) l)) e ∙ inner us (44 ∷ 117 ∷ (decimal i ++ y)) d m ∙ ap (go (at User d m)) (sym e)

pub complete : {k : Kind} (p : Phrase k) (x : List ℕ) (d : ℕ) (m : Size) → Short (meaning p) → begins_digit x ≡ false → scanned (at (enter k) d m) (render p ++ x) ≡ scanned (at (leave k) d (grow d m (size_of p))) x
unfolding step
complete (one t) x d m h n = complete t x d m h n
complete (or s t) x d m h n =
    ap (scanned (at Operand d m)) (append_assoc (render s) (124 ∷ render t) x)
    ∙ complete s (124 ∷ (render t ++ x)) d m h.0 refl
    ∙ go_on (at Sign d (grow d m (size_of s))) (at Operand d (grow d m (size_of s))) (124 ∷ (render t ++ x)) (render t ++ x) refl
    ∙ complete t x d (grow d m (size_of s)) h.1 n
    ∙ ap (λ z. scanned (at Sign d z) x) (grow_grow d m (size_of s) (size_of t))
complete (lone f) x d m h n = complete f x d m h n
complete (and t f) x d m h n =
    ap (scanned (at Operand d m)) (append_assoc (render t) (38 ∷ render f) x)
    ∙ complete t (38 ∷ (render f ++ x)) d m h.0 refl
    ∙ go_on (at Sign d (grow d m (size_of t))) (at Operand d (grow d m (size_of t))) (38 ∷ (render f ++ x)) (render f ++ x) refl
    ∙ complete f x d (grow d m (size_of t)) h.1 n
    ∙ ap (λ z. scanned (at Sign d z) x) (grow_grow d m (size_of t) (size_of f))
complete (a_role i) x d m h n = go_on (at Operand d m) (at Sign d (grow d m (sized (members i) 0))) (114 ∷ (decimal i ++ x)) x (ap (leaf Sign members 0 d m) (number_written i x h n))
complete (a_permission i) x d m h n = go_on (at Operand d m) (at Sign d (grow d m (sized (holders i) 0))) (112 ∷ (decimal i ++ x)) x (ap (leaf Sign holders 0 d m) (number_written i x h n))
complete no_users x d m h n = go_on (at Operand d m) (at Sign d (grow d m (sized nobody 0))) (123 ∷ 125 ∷ x) x refl
complete (braces us) x d m h n =
    ap (λ l. scanned (at Operand d m) (123 ∷ l)) (append_assoc (render us) (125 ∷ []) x)
    ∙ go_on (at Operand d m) (at User d m) (123 ∷ (render us ++ 125 ∷ x)) (render us ++ 125 ∷ x) (inner us (125 ∷ x) d m)
    ∙ complete us (125 ∷ x) d m h refl
    ∙ go_on (at Comma d (grow d m (size_of us))) (at Sign d (grow d m (size_of us))) (125 ∷ x) x refl
complete (parens s) x d m h n =
    ap (λ l. scanned (at Operand d m) (40 ∷ l)) (append_assoc (render s) (41 ∷ []) x)
    ∙ go_on (at Operand d m) (at Operand (suc d) m) (40 ∷ (render s ++ 41 ∷ x)) (render s ++ 41 ∷ x) refl
    ∙ complete s (41 ∷ x) (suc d) m h refl
    ∙ go_on (at Sign (suc d) (grow (suc d) m (size_of s))) (at Sign d (grow (suc d) m (size_of s))) (41 ∷ x) x refl
    ∙ ap (λ z. scanned (at Sign d z) x) (grow_in d m (meaning s) (levels s))
complete (a_user i) x d m h n = go_on (at User d m) (at Comma d (grow d m (sized (only i) 0))) (117 ∷ (decimal i ++ x)) x (ap (leaf Comma only 0 d m) (number_written i x h n))
complete (also us i) x d m h n =
    ap (scanned (at User d m)) (append_assoc (render us) (44 ∷ 117 ∷ decimal i) x)
    ∙ complete us (44 ∷ 117 ∷ (decimal i ++ x)) d m h.0 refl
    ∙ go_on (at Comma d (grow d m (size_of us))) (at Another d (grow d m (size_of us))) (44 ∷ 117 ∷ (decimal i ++ x)) (117 ∷ (decimal i ++ x)) refl
    ∙ go_on (at Another d (grow d m (size_of us))) (at Comma d (grow d (grow d m (size_of us)) (sized (only i) 1))) (117 ∷ (decimal i ++ x)) x (ap (leaf Comma only 1 d (grow d m (size_of us))) (number_written i x h.1 n))
    ∙ ap (λ z. scanned (at Comma d z) x) (grow_grow d m (size_of us) (sized (only i) 1) ∙ ap (λ l. grow d m (sized (meaning (also us i)) l)) (users_one us))
