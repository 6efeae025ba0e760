-- What is judged before a row is touched, as ways through the tables of the delegates' calls and as permitted changes.
use Rattle.std.proofs.Common.{ℕ, ◌<◌, ◌≢◌, inl, inr, arith}
use Rattle.meaning.specs.Measures as measures
use Rattle.meaning.specs.Rows.{Holder, FreeRow}
use Rattle.meaning.specs.Runs.{adds, removes, moves, Permitted}
use Rattle.meaning.proofs.Tests.{clash}
use Rattle.book.specs.Book.{Book}
use Rattle.book.specs.Grounds.{NoRow}
use Rattle.book.specs.Refusals.{Any, Least, NoneApplies}
use Rattle.book.specs.Calls.{OutOfRange, additions, removals}
use Rattle.book.proofs.Ladder.{end, pass, here, skip}
use Rattle.board.specs.Delegates.{MayBeAdded, MayBeRemoved}

inside : (a u r : ℕ) → a < measures.users → u < measures.users → r < measures.roles → OutOfRange a u r → ⊥
inside a u r x y z (inl l) = omega arith
inside a u r x y z (inr (inl l)) = omega arith
inside a u r x y z (inr (inr l)) = omega arith

module _ (b : Book) (a u r : ℕ) where
  pub rows_full : MayBeAdded b a u r → NoRow b u → Least (additions b a u r) 13
  rows_full m full =
      skip (inside a u r m.an_actor m.a_user m.a_role)
      (skip (λ t. clash (b.policy.trusted a) t m.free) (skip (λ t. clash (b.state u r) t m.new) (skip (λ none. none m.number m.may) (here full tt))))

  pub adds_none : MayBeAdded b a u r → ((Holder b.state u → ⊥) → FreeRow b.state) → NoneApplies (additions b a u r)
  adds_none m room =
      pass (inside a u r m.an_actor m.a_user m.a_role)
      (pass (λ t. clash (b.policy.trusted a) t m.free) (pass (λ t. clash (b.state u r) t m.new) (pass (λ none. none m.number m.may) (pass (λ n. n.full (room n.none)) end))))

  pub removes_none : MayBeRemoved b a u r → NoneApplies (removals b a u r)
  removes_none m =
      pass (inside a u r m.an_actor m.a_user m.a_role)
      (pass (λ t. clash (b.policy.trusted a) t m.free) (pass (λ t. clash (b.state u r) m.there t) (pass (λ none. none m.number m.may) end)))

  pub adds_permitted : (m : MayBeAdded b a u r) → Permitted (moves b.policy) b.state (adds a u r m.number)
  adds_permitted m = (m.new, m.may)

  pub removes_permitted : (m : MayBeRemoved b a u r) → Permitted (moves b.policy) b.state (removes a u r m.number)
  removes_permitted m = (m.there, m.may)

  -- no failed requirement refuses a delegate's call
  pub few_additions : (n : ℕ) → Any (additions b a u r) n → n ≢ 18
  few_additions n (inl (is, h)) e = omega (arith, is, e)
  few_additions n (inr (inl (is, h))) e = omega (arith, is, e)
  few_additions n (inr (inr (inl (is, h)))) e = omega (arith, is, e)
  few_additions n (inr (inr (inr (inl (is, h))))) e = omega (arith, is, e)
  few_additions n (inr (inr (inr (inr (inl (is, h)))))) e = omega (arith, is, e)
  few_additions n (inr (inr (inr (inr (inr h))))) e = h

  pub few_removals : (n : ℕ) → Any (removals b a u r) n → n ≢ 18
  few_removals n (inl (is, h)) e = omega (arith, is, e)
  few_removals n (inr (inl (is, h))) e = omega (arith, is, e)
  few_removals n (inr (inr (inl (is, h)))) e = omega (arith, is, e)
  few_removals n (inr (inr (inr (inl (is, h))))) e = omega (arith, is, e)
  few_removals n (inr (inr (inr (inr h)))) e = h
