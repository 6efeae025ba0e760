-- The four answers, from the laws about who may add what.
use Rattle.std.proofs.Common.{◌≡◌, ℕ, Bool, false, not, T, eqb, ◌⊎◌, ◌↔◌, List, [], ◌∷◌, refl, subst, inl, inr}
use mathlib.Core.Path.{subst⁻¹}
use lib.Dec.{eqb_refl}
use Rattle.meaning.specs.Measures.{users}
use Rattle.meaning.specs.Lists.{listed}
use Rattle.meaning.specs.Membership.{User, Row, State}
use Rattle.meaning.specs.Rules.{Policy}
use Rattle.meaning.specs.Sets.{UserSet, members, holders, only, nobody, union, intersection, In, Question, Holds, Static, named}
use Rattle.meaning.specs.Runs.{Change, Moves, end, Always}
use Rattle.theory.specs.Reach.{◌⊆◌, revocable, least_state, Reaches}
use Rattle.theory.specs.Hire.{Tracking, representative, by_representatives, TrackedOrHire, Closing, IsGreatestState}
use Rattle.theory.specs.Laws.{Delegable}
use Rattle.theory.specs.Verdicts.{TracksNamedUsers, HoldsAmongTracked}
use Rattle.theory.specs.Removing.{RunToLeastState}
use Rattle.meaning.proofs.Tests.{decide, clash, first, or_left, listed_left, listed_right}
use Rattle.theory.proofs.Growing.{inside}
use Rattle.theory.proofs.Runs.{enclosed, floored}
use Rattle.theory.proofs.Standing as Hire

-- a static set asks nothing of the row
pub static : (p : Policy) (x y : Row) (u : User) (a : UserSet) → Static a → In p x u a → In p y u a
static p x y u (members r) z h = absurd z
static p x y u (holders n) z h = absurd z
static p x y u (only v) z h = h
static p x y u nobody z h = h
static p x y u (union a b) z (inl h) = inl (static p x y u a z.0 h)
static p x y u (union a b) z (inr h) = inr (static p x y u b z.1 h)
static p x y u (intersection a b) z h = (static p x y u a z.0 h.0, static p x y u b z.1 h.1)

-- the set names tracked users only
abbrev pub Tracks : (User → Bool) → UserSet → Type 0
Tracks f a = (u : User) → T (listed (named a) u) → T (f u)

named_itself : (u v : User) → u ≡ v → T (listed (v ∷ []) u)
named_itself u v e = or_left (eqb u v) false (subst⁻¹ (λ (w : User). T (eqb w v)) e (eqb_refl v))

-- two users whom the set does not name are alike to it
pub alike : (p : Policy) (f : User → Bool) (row : Row) (u v : User) → T (not (f u)) → (a : UserSet) → Tracks f a → In p row u a → In p row v a
alike p f row u v new (members r) w h = h
alike p f row u v new (holders n) w h = h
alike p f row u v new (only x) w h = absurd (clash (f u) (w u (named_itself u x h)) new)
alike p f row u v new nobody w h = h
alike p f row u v new (union a b) w (inl h) = inl (alike p f row u v new a (λ x i. w x (listed_left (named a) (named b) x i)) h)
alike p f row u v new (union a b) w (inr h) = inr (alike p f row u v new b (λ x i. w x (listed_right (named a) (named b) x i)) h)
alike p f row u v new (intersection a b) w h =
    (alike p f row u v new a (λ x i. w x (listed_left (named a) (named b) x i)) h.0, alike p f row u v new b (λ x i. w x (listed_right (named a) (named b) x i)) h.1)

-- a static set holds tracked users only
tracks : (p : Policy) (f : User → Bool) (row : Row) (u : User) (a : UserSet) → Static a → Tracks f a → In p row u a → T (f u)
tracks p f row u (members r) z w h = absurd z
tracks p f row u (holders n) z w h = absurd z
tracks p f row u (only v) z w h = w u (named_itself u v h)
tracks p f row u nobody z w h = absurd h
tracks p f row u (union a b) z w (inl h) = tracks p f row u a z.0 (λ x i. w x (listed_left (named a) (named b) x i)) h
tracks p f row u (union a b) z w (inr h) = tracks p f row u b z.1 (λ x i. w x (listed_right (named a) (named b) x i)) h
tracks p f row u (intersection a b) z w h = tracks p f row u a z.0 (λ x i. w x (listed_left (named a) (named b) x i)) h.0

-- the four cases: by which side is static, and whether some run or every run is asked for, the verdict is the question's truth at the floor or at the closing's end
pub record Answers {p : Policy} {s : State} (m : Moves) (k : Tracking p s) (top : State) (q : Question) : Type 0 where
  pub possible_larger : Static q.larger → Reaches m s (λ t. Holds p t q) ↔ HoldsAmongTracked k (least_state p s) q
  pub possible_smaller : Static q.smaller → Reaches m s (λ t. Holds p t q) ↔ HoldsAmongTracked k top q
  pub necessary_larger : Static q.larger → Always m s (λ t. Holds p t q) ↔ HoldsAmongTracked k top q
  pub necessary_smaller : Static q.smaller → Always m s (λ t. Holds p t q) ↔ HoldsAmongTracked k (least_state p s) q

module _ {p : Policy} {s : State} (k : Tracking p s) (q : Question) (covers : TracksNamedUsers k q) where
  abbrev x : UserSet
  x = q.larger

  abbrev y : UserSet
  y = q.smaller

  pub wx : Tracks k.tracked x
  wx u i = covers u (listed_left (named x) (named y) u i)

  pub wy : Tracks k.tracked y
  wy u i = covers u (listed_right (named x) (named y) u i)

  -- over all users and over those that are looked at
  widely : (t : State) → HoldsAmongTracked k t q → Holds p (by_representatives k t) q
  widely t here u u-user h = go (decide (k.tracked u))
    where
      go : T (k.tracked u) ⊎ T (not (k.tracked u)) → In p (by_representatives k t u) u x
      go (inl old) = subst⁻¹ (λ (v : User). In p (t v) u x) (Hire.old k u old) (here u u-user (inl old) (subst (λ (v : User). In p (t v) u y) (Hire.old k u old) h))
      go (inr new) =
          let there : In p (t k.hire) u y = subst (λ (v : User). In p (t v) u y) (Hire.new k u new) h in
          let yes-y : In p (t k.hire) k.hire y = alike p k.tracked (t k.hire) u k.hire new y wy there in
          let yes-x : In p (t k.hire) k.hire x = here k.hire k.hire_is_user (inr refl) yes-y in
          subst⁻¹ (λ (v : User). In p (t v) u x) (Hire.new k u new) (alike p k.tracked (t k.hire) k.hire u k.hire_not_tracked x wx yes-x)

  self : (u : User) → TrackedOrHire k u → representative k u ≡ u
  self u (inl old) = Hire.old k u old
  self u (inr e) = subst⁻¹ (λ (v : User). representative k v ≡ v) e (Hire.new k k.hire k.hire_not_tracked)

  closely : (t : State) → Holds p (by_representatives k t) q → HoldsAmongTracked k t q
  closely t all u u-user look h =
      subst (λ (v : User). In p (t v) u x) (self u look) (all u u-user (subst⁻¹ (λ (v : User). In p (t v) u y) (self u look) h))

  -- where the smaller side is static, only tracked users are in it
  pub static_widely : Static y → (t : State) → HoldsAmongTracked k t q → Holds p t q
  static_widely z t here u u-user i = here u u-user (inl (tracks p k.tracked (t u) u y z wy i)) i

  -- the floor is alike at all users that are not tracked: they have no row
  floor_up : least_state p s ⊆ by_representatives k (least_state p s)
  floor_up u r h = Hire.by_stand k (λ v. T (least_state p s v r)) u (λ t. h) (λ t. absurd (k.others_hold_nothing u r t (first (s u r) (not (revocable p.revokes r)) h)))

  floor_down : by_representatives k (least_state p s) ⊆ least_state p s
  floor_down u r = Hire.by_stand k (λ v. T (least_state p s v r) → T (least_state p s u r)) u (λ t h. h)
      (λ t h. absurd (k.others_hold_nothing k.hire r k.hire_not_tracked (first (s k.hire r) (not (revocable p.revokes r)) h)))

  pub floor_widely : HoldsAmongTracked k (least_state p s) q → Holds p (least_state p s) q
  floor_widely here u u-user h =
      inside p (by_representatives k (least_state p s) u) (least_state p s u) (floor_down u) u x
      (widely (least_state p s) here u u-user (inside p (least_state p s u) (by_representatives k (least_state p s) u) (floor_up u) u y h))

  floor_closely : Holds p (least_state p s) q → HoldsAmongTracked k (least_state p s) q
  floor_closely all u u-user look h = all u u-user h

  module _ (m : Moves) (law : Delegable m k) (n : ℕ) (low : (down : List Change) × RunToLeastState m p s n down) (run : List Change) (c : Closing m k run) where
    abbrev top : State
    top = end s run

    everybody : IsGreatestState m k top users
    everybody = Hire.for_everybody k m law run c

    from_floor : Always m s (λ t. least_state p s ⊆ t)
    from_floor = floored m p law.removable s

    to_top : Always m s (λ t. t ⊆ by_representatives k top)
    to_top = enclosed m (λ t t' a u r j more. law.grows t t' a u r j (more a) (more u)) (by_representatives k top) everybody.closed s everybody.above

    at_floor : (P : State → Type 0) → P (least_state p s) → P (end s low.0)
    at_floor P h = subst⁻¹ P low.1.ends h

    pub answers : Answers m k top q
    answers = record {
      possible_larger = λ z. (
        (λ (xs, r, h). floor_closely (λ u u-user i.
            static p (end s xs u) (least_state p s u) u x z
            (h u u-user (inside p (least_state p s u) (end s xs u) (from_floor xs r u) u y i)))),
        λ here. (low.0, low.1.lawful, at_floor (λ t. Holds p t q) (floor_widely here)),
      );
      possible_smaller = λ z. (
        (λ (xs, r, h). closely top (λ u u-user i.
            inside p (end s xs u) (by_representatives k top u) (to_top xs r u) u x
            (h u u-user (static p (by_representatives k top u) (end s xs u) u y z i)))),
        λ here. (run, c.lawful, static_widely z top here),
      );
      necessary_larger = λ z. (
        (λ all. closely top (λ u u-user i.
            let (xs, r, high) = everybody.each u u-user in
            static p (end s xs u) (by_representatives k top u) u x z
            (all xs r u u-user (inside p (by_representatives k top u) (end s xs u) high u y i)))),
        λ here xs r u u-user i.
            static p (by_representatives k top u) (end s xs u) u x z
            (widely top here u u-user (inside p (end s xs u) (by_representatives k top u) (to_top xs r u) u y i)),
      );
      necessary_smaller = λ z. (
        (λ all. floor_closely (subst (λ (t : State). Holds p t q) low.1.ends (all low.0 low.1.lawful))),
        λ here xs r u u-user i.
            inside p (least_state p s u) (end s xs u) (from_floor xs r u) u x
            (floor_widely here u u-user (static p (end s xs u) (least_state p s u) u y z i)),
      );
    }
