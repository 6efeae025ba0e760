-- Whether a chain of edges leads from one role to another, and whether a user is in a set.
use Rattle.std.proofs.Common.{◌≡◌, ℕ, zero, suc, ◌<◌, Bool, not, ◌&&◌, ◌||◌, T, eqb, ◌⊎◌, subst, inl, inr, ⊎_elim, not-suc-le-zero, arith, eqb→eq}
use mathlib.Core.Path.{subst⁻¹}
use Rattle.std.proofs.lemmas.Bool.{cases_eq}
use lib.Dec.{eqb_refl}
use Rattle.meaning.specs.Measures.{users, roles}
use Rattle.meaning.specs.Membership.{User, Role, Row, State, Senior, same, above, Member}
use Rattle.meaning.proofs.Tests.{either, or_left, or_right, first, second, both, decide, clash}
use Rattle.theory.proofs.Tests.{some_at, some_gives}
use Rattle.theory.specs.Tests.{some}
use Rattle.meaning.specs.Rules.{Policy}
use Rattle.meaning.specs.Sets.{UserSet, members, holders, only, nobody, union, intersection, In, Question, Holds}
use Rattle.theory.specs.Bounds.{WithinMeasures}

module _ (p : Policy) where
  -- a chain whose inner roles are below n
  abbrev pub by : ℕ → ℕ → ℕ → Bool
  by zero q r = eqb q r || p.edge q r
  by (suc n) q r = by n q r || (by n q n && by n n r)

  join : {q m r : ℕ} → Senior p.edge q m → Senior p.edge m r → Senior p.edge q r
  join same t = t
  join (above e s) t = above e (join s t)

  sound : (n q r : ℕ) → T (by n q r) → Senior p.edge q r
  sound zero q r h = ⊎_elim
      (λ (e : T (eqb q r)). subst (λ (x : ℕ). Senior p.edge q x) (eqb→eq q r e) same)
      (λ (e : T (p.edge q r)). above e same)
      (either (eqb q r) (p.edge q r) h)
  sound (suc n) q r h = go (either (by n q r) (by n q n && by n n r) h) (sound n)
    where
      go : T (by n q r) ⊎ T (by n q n && by n n r) → ((q r : ℕ) → T (by n q r) → Senior p.edge q r) → Senior p.edge q r
      go (inl t) ih = ih q r t
      go (inr t) ih = join (ih q n (first (by n q n) (by n n r) t)) (ih n r (second (by n q n) (by n n r) t))

  start : (n q r : ℕ) → T (by zero q r) → T (by n q r)
  start zero q r h = h
  start (suc n) q r h = or_left (by n q r) (by n q n && by n n r) (start n q r h)

  -- to and from the last role, a chain need not pass it
  into : (n q : ℕ) → T (by (suc n) q n) → T (by n q n)
  into n q h = go (either (by n q n) (by n q n && by n n n) h)
    where
      go : T (by n q n) ⊎ T (by n q n && by n n n) → T (by n q n)
      go (inl t) = t
      go (inr t) = first (by n q n) (by n n n) t

  out : (n r : ℕ) → T (by (suc n) n r) → T (by n n r)
  out n r h = go (either (by n n r) (by n n n && by n n r) h)
    where
      go : T (by n n r) ⊎ T (by n n n && by n n r) → T (by n n r)
      go (inl t) = t
      go (inr t) = second (by n n n) (by n n r) t

  through : (n q m r : ℕ) → m < n → T (by n q m) → T (by n m r) → T (by n q r)
  through zero q m r l s t = absurd (not-suc-le-zero l)
  through (suc n) q m r l s t = go (cases_eq m n) (through n)
    where
      round : T (by n q n) → T (by n n r) → T (by (suc n) q r)
      round a b = or_right (by n q r) (by n q n && by n n r) (both (by n q n) (by n n r) a b)

      direct : T (by n q r) → T (by (suc n) q r)
      direct a = or_left (by n q r) (by n q n && by n n r) a

      go : (m ≡ n) ⊎ (m ≡ n → ⊥) → ((q m r : ℕ) → m < n → T (by n q m) → T (by n m r) → T (by n q r)) → T (by (suc n) q r)
      go (inl e) ih = round
          (into n q (subst (λ (x : ℕ). T (by (suc n) q x)) e s))
          (out n r (subst (λ (x : ℕ). T (by (suc n) x r)) e t))
      go (inr e) ih = pick (either (by n q m) (by n q n && by n n m) s) (either (by n m r) (by n m n && by n n r) t)
        where
          low : m < n
          low = omega arith

          pick : T (by n q m) ⊎ T (by n q n && by n n m) → T (by n m r) ⊎ T (by n m n && by n n r) → T (by (suc n) q r)
          pick (inl a) (inl b) = direct (ih q m r low a b)
          pick (inl a) (inr b) = round (ih q m n low a (first (by n m n) (by n n r) b)) (second (by n m n) (by n n r) b)
          pick (inr a) (inl b) = round (first (by n q n) (by n n m) a) (ih n m r low (second (by n q n) (by n n m) a) b)
          pick (inr a) (inr b) = round (first (by n q n) (by n n m) a) (second (by n m n) (by n n r) b)

  module _ (inside : (q r : Role) → T (p.edge q r) → (q < roles) × (r < roles)) where
    complete : {q r : ℕ} → Senior p.edge q r → T (by roles q r)
    complete {q} same = start roles q q (or_left (eqb q q) (p.edge q q) (eqb_refl q))
    complete {q} {r} (above {r = m} e s) =
        through roles q m r (inside q m e).1 (start roles q m (or_right (eqb q m) (p.edge q m) e)) (complete s)

    -- whether one role is senior to another
    pub senior? : (q r : Role) → Senior p.edge q r ⊎ (Senior p.edge q r → ⊥)
    senior? q r = elim (decide (by roles q r)) [ inl t ↦ inl (sound roles q r t) | inr off ↦ inr (λ s. clash (by roles q r) (complete s) off) ]

  module _ (s : State) (fin : WithinMeasures p s) where
    abbrev member_test : Row → ℕ → Bool
    member_test row r = row r || some roles (λ q. row q && by roles q r)

    member_in : (row : Row) (r : ℕ) → T (member_test row r) → Member p.edge row r
    member_in row r h = ⊎_elim
        (λ (t : T (row r)). (r, same, t))
        (λ (t : T (some roles (λ q. row q && by roles q r))).
        let (q, l, i) = some_gives roles (λ q. row q && by roles q r) t in
        (q, sound roles q r (second (row q) (by roles q r) i), first (row q) (by roles q r) i))
        (either (row r) (some roles (λ q. row q && by roles q r)) h)

    member_out : (row : Row) (r q : ℕ) → Senior p.edge q r → T (row q) → T (member_test row r)
    member_out row r q same h = or_left (row r) (some roles (λ q. row q && by roles q r)) h
    member_out row r q (above {r = m} e s) h =
        or_right (row r) (some roles (λ q. row q && by roles q r))
        (some_at roles (λ q. row q && by roles q r) q (fin.edges_inside q m e).0 (both (row q) (by roles q r) h (complete fin.edges_inside (above e s))))

    pub member? : (row : Row) (r : ℕ) → Member p.edge row r ⊎ (Member p.edge row r → ⊥)
    member? row r = ⊎_elim
        (λ (t : T (member_test row r)). inl (member_in row r t))
        (λ (t : T (not (member_test row r))). inr (λ m. clash (member_test row r) (member_out row r m.0 m.1 m.2) t))
        (decide (member_test row r))

    -- some role below n to which the permission is given, and of which the user is a member
    given? : (row : Row) (k n : ℕ) →
        ((r : ℕ) × (r < n) × T (p.gives k r) × Member p.edge row r) ⊎ (((r : ℕ) × (r < n) × T (p.gives k r) × Member p.edge row r) → ⊥)
    given? row k zero = inr (λ h. not-suc-le-zero h.1)
    given? row k (suc n) = go (given? row k n) (decide (p.gives k n)) (member? row n)
      where
        Here : ℕ → Type 0
        Here n = (r : ℕ) × (r < n) × T (p.gives k r) × Member p.edge row r

        go : Here n ⊎ (Here n → ⊥) → T (p.gives k n) ⊎ T (not (p.gives k n)) → Member p.edge row n ⊎ (Member p.edge row n → ⊥)
            → Here (suc n) ⊎ (Here (suc n) → ⊥)
        go (inl (r, l, g, m)) d e = inl (r, omega arith, g, m)
        go (inr none) (inl g) (inl m) = inl (n, omega arith, g, m)
        go (inr none) (inl g) (inr f) = inr (λ (r, l, h, m). elim (cases_eq r n) [
          | inl e ↦ f (subst (λ (x : ℕ). Member p.edge row x) e m)
          | inr e ↦ none (r, omega arith, h, m)
        ])
        go (inr none) (inr g) e = inr (λ (r, l, h, m). elim (cases_eq r n) [
          | inl e ↦ clash (p.gives k n) (subst (λ (x : ℕ). T (p.gives k x)) e h) g
          | inr e ↦ none (r, omega arith, h, m)
        ])

    pub inside? : (row : Row) (u : ℕ) (x : UserSet) → In p row u x ⊎ (In p row u x → ⊥)
    inside? row u (members r) = member? row r
    inside? row u (holders k) = ⊎_elim
        (λ (h : (r : ℕ) × (r < roles) × T (p.gives k r) × Member p.edge row r). inl (h.0, h.2, h.3))
        (λ (h : ((r : ℕ) × (r < roles) × T (p.gives k r) × Member p.edge row r) → ⊥). inr (λ (m : In p row u (holders k)). h (m.0, fin.given_inside k m.0 m.1, m.1, m.2)))
        (given? row k roles)
    inside? row u (only v) = cases_eq u v
    inside? row u nobody = inr (λ h. h)
    inside? row u (union x y) = go (inside? row u x) (inside? row u y)
      where
        go : In p row u x ⊎ (In p row u x → ⊥) → In p row u y ⊎ (In p row u y → ⊥) → (In p row u x ⊎ In p row u y) ⊎ ((In p row u x ⊎ In p row u y) → ⊥)
        go (inl a) e = inl (inl a)
        go (inr a) (inl b) = inl (inr b)
        go (inr a) (inr b) = inr (elim [ inl h ↦ a h | inr h ↦ b h ])
    inside? row u (intersection x y) = go (inside? row u x) (inside? row u y)
      where
        go : In p row u x ⊎ (In p row u x → ⊥) → In p row u y ⊎ (In p row u y → ⊥) → (In p row u x × In p row u y) ⊎ ((In p row u x × In p row u y) → ⊥)
        go (inl a) (inl b) = inl (a, b)
        go (inl a) (inr b) = inr (λ h. b h.1)
        go (inr a) e = inr (λ h. a h.0)

    -- at the users below n, the question is true or some user shows that it is not
    holds_below? : (t : State) (q : Question) (n : ℕ)
        → ((u : User) → u < n → In p (t u) u q.smaller → In p (t u) u q.larger) ⊎ ((u : User) × (u < n) × In p (t u) u q.smaller × (In p (t u) u q.larger → ⊥))
    holds_below? t q zero = inl (λ u l. absurd (not-suc-le-zero l))
    holds_below? t q (suc n) = go (holds_below? t q n) (inside? (t n) n q.smaller) (inside? (t n) n q.larger)
      where
        InY : ℕ → Type 0
        InY u = In p (t u) u q.smaller

        InX : ℕ → Type 0
        InX u = In p (t u) u q.larger

        with_last : (InY n → InX n) → ((u : User) → u < n → InY u → InX u) → (u : User) → u < suc n → InY u → InX u
        with_last here below u l h = elim (cases_eq u n) [
          | inl e ↦ subst⁻¹ InX e (here (subst InY e h))
          | inr e ↦ below u (omega arith) h
        ]

        go : ((u : User) → u < n → InY u → InX u) ⊎ ((u : User) × (u < n) × InY u × (InX u → ⊥))
            → InY n ⊎ (InY n → ⊥) → InX n ⊎ (InX n → ⊥)
            → ((u : User) → u < suc n → InY u → InX u) ⊎ ((u : User) × (u < suc n) × InY u × (InX u → ⊥))
        go (inr (u, l, h, fails)) a b = inr (u, omega arith, h, fails)
        go (inl below) (inr gone) b = inl (with_last (λ h. absurd (gone h)) below)
        go (inl below) (inl h) (inl i) = inl (with_last (λ _. i) below)
        go (inl below) (inl h) (inr fails) = inr (n, omega arith, h, fails)

    pub holds? : (t : State) (q : Question) → Holds p t q ⊎ (Holds p t q → ⊥)
    holds? t q = elim (holds_below? t q users) [ inl h ↦ inl h | inr (u, l, h, fails) ↦ inr (λ all. fails (all u l h)) ]
