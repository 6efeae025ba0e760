-- What is scanned to an end is a phrase, and counted.
use Rattle.std.proofs.Common.{◌≡◌, ℕ, zero, suc, ◌<◌, max, ◌⊎◌, List, [], ◌∷◌, ◌++◌, length, Some, None, decimal, Option, sym, refl, ap, ◌∙◌, inl, inr, append_assoc, arith}
use Rattle.grammar.specs.declared.sizes.Size.{Size}
use Rattle.grammar.specs.declared.sizes.State.{State}
use Rattle.grammar.specs.declared.sizes.Mode.{Mode}
use Rattle.grammar.specs.declared.sizes.Mode.TheVariants.{Operand, Sign, User, Comma, Another}
use Rattle.grammar.specs.Text.{Read, number}
use Rattle.grammar.specs.Phrase as P
use Rattle.meaning.specs.Sets.{UserSet, members, holders, only}
use Rattle.grammar.specs.Phrase.{Kind, set, term, factor, users, Phrase, one, or, lone, and, no_users, braces, parens, also, render, meaning, levels, Short, Written, Ends}
use Rattle.grammar.specs.Scan.{sized, size_of, grow, Next, go, stop, bad, at, pick, leaf, step, step_at, ok, no, runs, scanned, empty, heard, Scanned}
use Rattle.grammar.proofs.Numbers.{number_read}
use Rattle.grammar.proofs.Steps.{Move, opens, a_role, a_permission, none_in, enters, joins_or, joins_and, closes, a_user, comma, leaves, another, moves, Way, pick_ways, pick_not}
use Rattle.grammar.proofs.Runs.{first_turn, stops}
use Rattle.grammar.proofs.Complete.{join, grow_grow, grow_in, users_one, size_is, and_assoc, complete}

-- a further factor joined to the last term
abbrev attach : Phrase set → Phrase factor → Phrase set
attach (one t) f = one (and t f)
attach (or s t) f = or s (and t f)

attach_render : (s : Phrase set) (f : Phrase factor) (x : List ℕ) → render s ++ 38 ∷ (render f ++ x) ≡ render (attach s f) ++ x
attach_render (one t) f x = sym (append_assoc (render t) (38 ∷ render f) x)
attach_render (or s t) f x =
    append_assoc (render s) (124 ∷ render t) (38 ∷ (render f ++ x))
    ∙ ap (λ l. render s ++ 124 ∷ l) (sym (append_assoc (render t) (38 ∷ render f) x))
    ∙ sym (append_assoc (render s) (124 ∷ (render t ++ 38 ∷ render f)) x)

attach_size : (s : Phrase set) (f : Phrase factor) → join (size_of s) (size_of f) ≡ size_of (attach s f)
attach_size (one t) f = refl
attach_size (or s t) f =
    let a = size_of s in
    let b = size_of t in
    let c = size_of f in
    size_is _ _ _ _ _ _ _ _ _ _ (omega arith) (max_assoc a.levels b.levels c.levels) (and_assoc a.fits b.fits c.fits) (and_assoc a.fixed b.fixed c.fixed) (and_assoc a.roles b.roles c.roles)
  where
    max_assoc : (a b c : ℕ) → max (max a b) c ≡ max a (max b c)
    max_assoc a b c = omega arith

attach_short : (s : Phrase set) (f : Phrase factor) → Short (meaning s) → Short (meaning f) → Short (meaning (attach s f))
attach_short (one t) f h k = (h, k)
attach_short (or s t) f h k = (h.0, (h.1, k))

-- a factor was scanned, and the scanning goes on behind it
abbrev Factor : ℕ → ℕ → Size → List ℕ → Size → List ℕ → Type 0
Factor f d m s e x = (p : Phrase factor) × (s1 : List ℕ) × (g : ℕ) × (g < f) × (s ≡ render p ++ s1) × (Short (meaning p)) × (runs g (at Sign d (grow d m (size_of p))) s1 ≡ ok e x)

-- the scanning stops behind a set, or closes a parenthesis there and goes on
abbrev End : ℕ → ℕ → Size → List ℕ → Size → List ℕ → Type 0
End f d m s e x = ((d ≡ 0) × (m ≡ e) × (s ≡ x)) ⊎ ((b : ℕ) × (s1 : List ℕ) × (g : ℕ) × (d ≡ suc b) × (s ≡ 41 ∷ s1) × (g < f) × (runs g (at Sign b m) s1 ≡ ok e x))

abbrev Set : ℕ → ℕ → Size → Phrase set → List ℕ → Size → List ℕ → Type 0
Set f d m p s e x = (r : Phrase set) × (s1 : List ℕ) × (render p ++ s ≡ render r ++ s1) × (Short (meaning r)) × (End f d (grow d m (size_of r)) s1 e x)

abbrev Users : ℕ → ℕ → Size → Phrase users → List ℕ → Size → List ℕ → Type 0
Users f d m p s e x = (r : Phrase users) × (s1 : List ℕ) × (g : ℕ) × (g < f) × (render p ++ s ≡ render r ++ 125 ∷ s1) × (Short (meaning r)) × (runs g (at Sign d (grow d m (size_of r))) s1 ≡ ok e x)

abbrev FactorClaim : ℕ → Type 0
FactorClaim f = (d : ℕ) (m : Size) (s : List ℕ) (e : Size) (x : List ℕ) → runs f (at Operand d m) s ≡ ok e x → Factor f d m s e x

abbrev SetClaim : ℕ → Type 0
SetClaim f = (d : ℕ) (m : Size) (p : Phrase set) (s : List ℕ) (e : Size) (x : List ℕ) → Short (meaning p) → runs f (at Sign d (grow d m (size_of p))) s ≡ ok e x → Set f d m p s e x

abbrev UsersClaim : ℕ → Type 0
UsersClaim f = (d : ℕ) (m : Size) (p : Phrase users) (s : List ℕ) (e : Size) (x : List ℕ) → Short (meaning p) → runs f (at Comma d (grow d m (size_of p))) s ≡ ok e x → Users f d m p s e x

-- the steps by state, with what comes after
abbrev After : ℕ → Mode → ℕ → Size → List ℕ → Size → List ℕ → Type 0
After f k d m s e x = (g : ℕ) × (f ≡ suc g) × (((q : State) × (s1 : List ℕ) × (Move k d m s q s1) × (runs g q s1 ≡ ok e x)) ⊎ ((step_at k d m s ≡ stop x) × (m ≡ e)))

after : (f : ℕ) (k : Mode) (d : ℕ) (m : Size) (s : List ℕ) (e : Size) (x : List ℕ) → runs f (at k d m) s ≡ ok e x → After f k d m s e x
unfolding step
after f k d m s e x h = let t = first_turn f (at k d m) s x e h in (t.0, t.1, split t.0 t.2)
  where
    split : (g : ℕ) → ((p : State) × (s1 : List ℕ) × (step (at k d m) s ≡ go p s1) × (runs g p s1 ≡ ok e x)) ⊎ ((step (at k d m) s ≡ stop x) × (m ≡ e)) → ((q : State) × (s1 : List ℕ) × (Move k d m s q s1) × (runs g q s1 ≡ ok e x)) ⊎ ((step_at k d m s ≡ stop x) × (m ≡ e))
    split g (inl w) = inl (w.0, w.1, moves k d m s w.0 w.1 w.2, w.3)
    split g (inr w) = inr w

-- ---- only behind a set can the scanning stop

pick_never : {x : List ℕ} (c : ℕ) (s : List ℕ) (f : List ℕ → Next) (o : Next) → ((y : List ℕ) → f y ≡ stop x → ⊥) → (o ≡ stop x → ⊥) → pick c s f o ≡ stop x → ⊥
pick_never {x} c s f o a b e = split (pick_ways c s f o _ e)
  where
    split : Way c s f o (stop x) → ⊥
    split (inl w) = a w.0 w.2
    split (inr w) = b w.1

leaf_never : {x : List ℕ} (k : Mode) (mk : ℕ → UserSet) (l d : ℕ) (m : Size) (r : Read) → leaf k mk l d m r ≡ stop x → ⊥
leaf_never k mk l d m r e = grind arith

go_never : {x : List ℕ} (q : State) (s : List ℕ) → go q s ≡ stop x → ⊥
go_never q s e = cc

bad_never : {x : List ℕ} → bad ≡ stop x → ⊥
bad_never e = cc

operand_never : {x : List ℕ} (d : ℕ) (m : Size) (s : List ℕ) → step_at Operand d m s ≡ stop x → ⊥
operand_never d m s = pick_never 40 s _ _ (λ y. go_never _ y) (pick_never 114 s _ _ (λ y. leaf_never Sign members 0 d m (number y)) (pick_never 112 s _ _ (λ y. leaf_never Sign holders 0 d m (number y)) (pick_never 123 s _ _ (λ y. pick_never 125 y _ _ (λ z. go_never _ z) (go_never _ y)) bad_never)))

user_never : {x : List ℕ} (d : ℕ) (m : Size) (s : List ℕ) → step_at User d m s ≡ stop x → ⊥
user_never d m s = pick_never 117 s _ _ (λ y. leaf_never Comma only 0 d m (number y)) bad_never

another_never : {x : List ℕ} (d : ℕ) (m : Size) (s : List ℕ) → step_at Another d m s ≡ stop x → ⊥
another_never d m s = pick_never 117 s _ _ (λ y. leaf_never Comma only 1 d m (number y)) bad_never

comma_never : {x : List ℕ} (d : ℕ) (m : Size) (s : List ℕ) → step_at Comma d m s ≡ stop x → ⊥
comma_never d m s = pick_never 44 s _ _ (λ y. go_never _ y) (pick_never 125 s _ _ (λ y. go_never _ y) bad_never)

sign_stop : (d : ℕ) (m : Size) (s x : List ℕ) → step_at Sign d m s ≡ stop x → (d ≡ 0) × (s ≡ x)
sign_stop zero m s x e = first (pick_ways 124 s _ _ _ e)
  where
    second : Way 38 s (λ s1. go (at Operand 0 m) s1) (stop s) (stop x) → (zero ≡ zero) × (s ≡ x)
    second (inl w) = absurd (go_never _ _ w.2)
    second (inr w) = (refl, cc w.1)

    first : Way 124 s (λ s1. go (at Operand 0 m) s1) (pick 38 s (λ s1. go (at Operand 0 m) s1) (stop s)) (stop x) → (zero ≡ zero) × (s ≡ x)
    first (inl w) = absurd (go_never _ _ w.2)
    first (inr w) = second (pick_ways 38 s _ _ _ w.1)
sign_stop (suc d) m s x e = absurd (pick_never 124 s _ _ (λ y. go_never _ y) (pick_never 38 s _ _ (λ y. go_never _ y) (pick_never 41 s _ _ (λ y. go_never _ y) bad_never)) e)

-- ---- users in braces

abbrev Below : (ℕ → Type 0) → ℕ → Type 0
Below C f = (g : ℕ) → g < f → C g

users_another : (f g : ℕ) (IH : Below UsersClaim f) (d : ℕ) (m : Size) (p : Phrase users) (s : List ℕ) (q : State) (s1 : List ℕ) (e : Size) (x : List ℕ) → g < f → Short (meaning p) → Move Another d (grow d m (size_of p)) s q s1 → runs g q s1 ≡ ok e x → (r : Phrase users) × (z : List ℕ) × (b : ℕ) × (b < f) × (render p ++ 44 ∷ s ≡ render r ++ 125 ∷ z) × (Short (meaning r)) × (runs b (at Sign d (grow d m (size_of r))) z ≡ ok e x)
users_another f g IH d m p s q s1 e x l h (another {s = t} n y w) k =
    let i = number_read t y n w in
    let size : grow d (grow d m (size_of p)) (sized (only n) 1) ≡ grow d m (size_of (also p n)) = grow_grow d m (size_of p) (sized (only n) 1) ∙ ap (λ l. grow d m (sized (meaning (also p n)) l)) (users_one p) in
    let r = IH g l d m (also p n) y e x (h, i.1) (ap (λ z. runs g (at Comma d z) y) (sym size) ∙ k) in
    let text : render p ++ 44 ∷ 117 ∷ t ≡ render (also p n) ++ y = ap (λ l. render p ++ 44 ∷ 117 ∷ l) i.0 ∙ sym (append_assoc (render p) (44 ∷ 117 ∷ decimal n) y) in
    (r.0, r.1, r.2, omega arith, text ∙ r.4, r.5, r.6)

users_move : (f g : ℕ) (IH : Below UsersClaim f) (d : ℕ) (m : Size) (p : Phrase users) (s : List ℕ) (q : State) (s1 : List ℕ) (e : Size) (x : List ℕ) → g < f → Short (meaning p) → Move Comma d (grow d m (size_of p)) s q s1 → runs g q s1 ≡ ok e x → Users f d m p s e x
users_move f g IH d m p s q s1 e x l h comma k = next (after g Another d (grow d m (size_of p)) s1 e x k)
  where
    next : After g Another d (grow d m (size_of p)) s1 e x → Users f d m p (44 ∷ s1) e x
    next a = elim a.2 [
      | inl w ↦ users_another f a.0 IH d m p s1 w.0 w.1 e x (omega (arith, a.1)) h w.2 w.3
      | inr w ↦ absurd (another_never d (grow d m (size_of p)) s1 w.0)
    ]
users_move f g IH d m p s q s1 e x l h leaves k = (p, s1, g, l, refl, h, k)

users_step : (f : ℕ) → Below UsersClaim f → UsersClaim f
users_step f IH d m p s e x h k = next (after f Comma d (grow d m (size_of p)) s e x k)
  where
    next : After f Comma d (grow d m (size_of p)) s e x → Users f d m p s e x
    next a = elim a.2 [
      | inl w ↦ users_move f a.0 IH d m p s w.0 w.1 e x (omega (arith, a.1)) h w.2 w.3
      | inr w ↦ absurd (comma_never d (grow d m (size_of p)) s w.0)
    ]

strong : (C : ℕ → Type 0) → ((f : ℕ) → Below C f → C f) → (f : ℕ) → Below C f
strong C r zero g l = absurd (omega arith)
strong C r (suc f) g l = r g (λ b k. strong C r f b (omega arith))

users_claim : (f : ℕ) → UsersClaim f
users_claim f = strong UsersClaim users_step (suc f) f (omega arith)

-- ---- factors and sets

abbrev Claims : ℕ → Type 0
Claims f = FactorClaim f × SetClaim f

-- one user behind a brace
enter_user : (f g : ℕ) (d : ℕ) (m : Size) (s : List ℕ) (q : State) (s1 : List ℕ) (e : Size) (x : List ℕ) → g < f → Move User d m s q s1 → runs g q s1 ≡ ok e x → Factor f d m (123 ∷ s) e x
enter_user f g d m s q s1 e x l (a_user {s = t} n y w) k =
    let i = number_read t y n w in
    let r = users_claim g d m (P.a_user n) y e x i.1 k in (
      braces r.0,
      r.1,
      r.2,
      omega arith,
      ap (λ l. 123 ∷ 117 ∷ l) i.0 ∙ ap (λ l. 123 ∷ l) r.4 ∙ ap (λ l. 123 ∷ l) (sym (append_assoc (render r.0) (125 ∷ []) r.1)),
      r.5,
      r.6,
    )

-- the set inside a parenthesis is closed
close_set : (f d : ℕ) (m : Size) (r : Phrase set) (s : List ℕ) (s0 : List ℕ) (e : Size) (x : List ℕ) → s0 ≡ render r ++ s → Short (meaning r) → End f (suc d) (grow (suc d) m (size_of r)) s e x → Factor f d m (40 ∷ s0) e x
close_set f d m r s s0 e x t h (inl w) = absurd (omega (arith, w.0))
close_set f d m r s s0 e x t h (inr w) =
    let b : w.0 ≡ d = omega (arith, w.3) in (
      parens r,
      w.1,
      w.2,
      w.5,
      ap (λ l. 40 ∷ l) (t ∙ ap (λ l. render r ++ l) w.4 ∙ sym (append_assoc (render r) (41 ∷ []) w.1)),
      h,
      ap (λ j. runs w.2 (at Sign j (grow d m (size_of (parens r)))) w.1) (sym b) ∙ ap (λ z. runs w.2 (at Sign w.0 z) w.1) (sym (grow_in d m (meaning r) (levels r))) ∙ w.6,
    )

factor_more : (f g d : ℕ) (m : Size) (s : List ℕ) (e : Size) (x : List ℕ) → f < g → Factor f d m s e x → Factor g d m s e x
factor_more f g d m s e x l r = (r.0, r.1, r.2, omega (arith, r.3), r.4, r.5, r.6)

factor_move : (f g : ℕ) (IH : Below Claims f) (d : ℕ) (m : Size) (s : List ℕ) (q : State) (s1 : List ℕ) (e : Size) (x : List ℕ) → g < f → Move Operand d m s q s1 → runs g q s1 ≡ ok e x → Factor f d m s e x
factor_move f g IH d m s q s1 e x l opens k =
    let a = (IH g l).0 (suc d) m s1 e x k in
    let b = (IH a.2 (omega (arith, a.3))).1 (suc d) m (one (lone a.0)) a.1 e x a.5 a.6 in
    factor_more a.2 f d m (40 ∷ s1) e x (omega (arith, a.3)) (close_set a.2 d m b.0 b.1 s1 e x (a.4 ∙ b.2) b.3 b.4)
factor_move f g IH d m s q s1 e x l (a_role {s = t} n y w) k = let i = number_read t y n w in (P.a_role n, y, g, l, ap (λ l. 114 ∷ l) i.0, i.1, k)
factor_move f g IH d m s q s1 e x l (a_permission {s = t} n y w) k = let i = number_read t y n w in (P.a_permission n, y, g, l, ap (λ l. 112 ∷ l) i.0, i.1, k)
factor_move f g IH d m s q s1 e x l none_in k = (no_users, s1, g, l, refl, tt, k)
factor_move f g IH d m s q s1 e x l enters k = next (after g User d m s1 e x k)
  where
    next : After g User d m s1 e x → Factor f d m (123 ∷ s1) e x
    next a = elim a.2 [
      | inl w ↦ enter_user f a.0 d m s1 w.0 w.1 e x (omega (arith, a.1)) w.2 w.3
      | inr w ↦ absurd (user_never d m s1 w.0)
    ]

factor_step : (f : ℕ) → Below Claims f → FactorClaim f
factor_step f IH d m s e x k = next (after f Operand d m s e x k)
  where
    next : After f Operand d m s e x → Factor f d m s e x
    next a = elim a.2 [
      | inl w ↦ factor_move f a.0 IH d m s w.0 w.1 e x (omega (arith, a.1)) w.2 w.3
      | inr w ↦ absurd (operand_never d m s w.0)
    ]

end_more : (f g d : ℕ) (m : Size) (s : List ℕ) (e : Size) (x : List ℕ) → f < g → End f d m s e x → End g d m s e x
end_more f g d m s e x l (inl w) = inl w
end_more f g d m s e x l (inr w) = inr (w.0, w.1, w.2, w.3, w.4, omega (arith, w.5), w.6)

-- a sign and a factor join the set so far
joined : (f g : ℕ) (IH : Below Claims f) (d : ℕ) (m : Size) (p : Phrase set) (c : ℕ) (on : Phrase factor → Phrase set) (s : List ℕ) (e : Size) (x : List ℕ) → g < f → Short (meaning p) →
    ((r : Phrase factor) (y : List ℕ) → render p ++ c ∷ (render r ++ y) ≡ render (on r) ++ y) →
    ((r : Phrase factor) → join (size_of p) (size_of r) ≡ size_of (on r)) →
    ((r : Phrase factor) → Short (meaning r) → Short (meaning (on r))) →
    runs g (at Operand d (grow d m (size_of p))) s ≡ ok e x → Set f d m p (c ∷ s) e x
joined f g IH d m p c on s e x l h text size short k =
    let a = (IH g l).0 d (grow d m (size_of p)) s e x k in
    let z : grow d (grow d m (size_of p)) (size_of a.0) ≡ grow d m (size_of (on a.0)) = grow_grow d m (size_of p) (size_of a.0) ∙ ap (grow d m) (size a.0) in
    let b = (IH a.2 (omega (arith, a.3))).1 d m (on a.0) a.1 e x (short a.0 a.5) (ap (λ y. runs a.2 (at Sign d y) a.1) (sym z) ∙ a.6) in
    (b.0, b.1, ap (λ l. render p ++ c ∷ l) a.4 ∙ text a.0 a.1 ∙ b.2, b.3, end_more a.2 f d _ _ e x (omega (arith, a.3)) b.4)

set_move : (f g : ℕ) (IH : Below Claims f) (d : ℕ) (m : Size) (p : Phrase set) (s : List ℕ) (q : State) (s1 : List ℕ) (e : Size) (x : List ℕ) → g < f → Short (meaning p) → Move Sign d (grow d m (size_of p)) s q s1 → runs g q s1 ≡ ok e x → Set f d m p s e x
set_move f g IH d m p s q s1 e x l h joins_or k =
    joined f g IH d m p 124 (λ r. or p (lone r)) s1 e x l h (λ r y. sym (append_assoc (render p) (124 ∷ render r) y)) (λ r. refl) (λ r w. (h, w)) k
set_move f g IH d m p s q s1 e x l h joins_and k =
    joined f g IH d m p 38 (attach p) s1 e x l h (attach_render p) (attach_size p) (λ r w. attach_short p r h w) k
set_move f g IH d m p s q s1 e x l h (closes {d = b}) k = (p, 41 ∷ s1, refl, h, inr (b, s1, g, refl, refl, l, k))

set_step : (f : ℕ) → Below Claims f → SetClaim f
set_step f IH d m p s e x h k = next (after f Sign d (grow d m (size_of p)) s e x k)
  where
    next : After f Sign d (grow d m (size_of p)) s e x → Set f d m p s e x
    next a = elim a.2 [
      | inl w ↦ set_move f a.0 IH d m p s w.0 w.1 e x (omega (arith, a.1)) h w.2 w.3
      | inr w ↦ let z = sign_stop d (grow d m (size_of p)) s x w.0 in (p, s, refl, h, inl (z.0, w.1, z.1))
    ]

claims : (f : ℕ) → Claims f
claims f = strong Claims (λ g IH. (factor_step g IH, set_step g IH)) (suc f) f (omega arith)

grow_none : (z : Size) → grow 0 empty z ≡ z
grow_none z = size_is _ _ _ _ _ _ _ _ _ _ (omega arith) (omega arith) refl refl refl

-- the whole: what is scanned is a set of that size
pub sound : (s x : List ℕ) (e : Size) → scanned (at Operand 0 empty) s ≡ ok e x → (p : Phrase set) × (Written s p x) × (e ≡ size_of p)
unfolding scanned
sound s x e h =
    let f = suc (length s) in
    let a = (claims f).0 0 empty s e x h in
    let b = (claims a.2).1 0 empty (one (lone a.0)) a.1 e x a.5 a.6 in
    finish a.2 b.0 b.1 (a.4 ∙ b.2) b.3 b.4
  where
    finish : (g : ℕ) (r : Phrase set) (s1 : List ℕ) → s ≡ render r ++ s1 → Short (meaning r) → End g 0 (grow 0 empty (size_of r)) s1 e x → (p : Phrase set) × (Written s p x) × (e ≡ size_of p)
    finish g r s1 t k (inl w) = (r, record { bytes = t ∙ ap (λ l. render r ++ l) w.2; short = k }, sym w.1 ∙ grow_none (size_of r))
    finish g r s1 t k (inr w) = absurd (omega (arith, w.3))

-- and a set that stands there is scanned
pub found : (s x : List ℕ) (p : Phrase set) → Written s p x → Ends x → scanned (at Operand 0 empty) s ≡ ok (size_of p) x
unfolding step
found s x p w n =
    ap (scanned (at Operand 0 empty)) w.bytes
    ∙ complete p x 0 empty w.short n.no_digit
    ∙ stops (at Sign 0 (grow 0 empty (size_of p))) x x (pick_not 124 x _ _ n.no_or ∙ pick_not 38 x _ _ n.no_and)
    ∙ ap (λ z. ok z x) (grow_none (size_of p))

-- what a call tells that answers as the scanning does, and takes nothing where there is no set
pub scanned_is : (s x : List ℕ) (r : Option Size) → scanned (at Operand 0 empty) s ≡ heard r x → (r ≡ None → x ≡ s) → Scanned s r x
scanned_is s x (Some m) h same = record {
  found = λ p y w n. let e : ok m x ≡ ok (size_of p) y = sym h ∙ found s y p w n in let a : m ≡ size_of p = cc in (ap Some a, cc);
  real = λ z e. let b : m ≡ z = cc in let f = sound s x m h in (f.0, f.1, sym b ∙ f.2);
  kept = same;
}
scanned_is s x None h same = record {
  found = λ p y w n. let e : no ≡ ok (size_of p) y = sym h ∙ found s y p w n in cc;
  real = λ z e. cc;
  kept = same;
}
