-- Whether a question can be asked is decided, so what cannot be unaskable is askable.
use Rattle.std.proofs.Common.{◌≡◌, ℕ, ◌+◌, ◌<◌, ◌≤◌, true, T, ◌⊎◌, length, sym, ◌∙◌, ap₂, inl, inr, ⊎_elim, arith, length-append}
use mathlib.Core.Path.{subst⁻¹}
use Rattle.std.proofs.lemmas.Bool.{cases_lt}
use Rattle.meaning.specs.Measures.{users, question_operands}
use Rattle.meaning.specs.Sets.{UserSet, members, holders, only, nobody, union, intersection, Question, Static, SemiStatic, named, names, Askable}
use Rattle.meaning.specs.Lists.{listed}
use Rattle.meaning.proofs.Tests.{listed_either}
use Rattle.trees.specs.Reading.{Nodes, nodes_in as nodes_of}
use Rattle.trees.specs.Trees.{balanced}
use Rattle.tables.specs.View.{set_of, stored_question}
use Rattle.questions.specs.Naming.{users_in, AllInside}
use Rattle.questions.specs.declared.inquiry.Inquiry.{Inquiry}
use Rattle.questions.specs.Inquired.{inquired}
use Rattle.questions.proofs.Names.{nodes_name}

pair? : (x y : UserSet) → Static x ⊎ (Static x → ⊥) → Static y ⊎ (Static y → ⊥) → (Static x × Static y) ⊎ (Static x × Static y → ⊥)
pair? x y (inl a) (inl b) = inl (a, b)
pair? x y (inl a) (inr n) = inr (λ h. n h.1)
pair? x y (inr n) b = inr (λ h. n h.0)

static? : (x : UserSet) → Static x ⊎ (Static x → ⊥)
static? (members r) = inr (λ h. h)
static? (holders n) = inr (λ h. h)
static? (only u) = inl tt
static? nobody = inl tt
static? (union x y) = pair? x y (static? x) (static? y)
static? (intersection x y) = pair? x y (static? x) (static? y)

pub sure_askable : (q : Question) → ((Askable q → ⊥) → ⊥) → Askable q
sure_askable q s = record {
  is_semi_static = side (static? q.larger) (static? q.smaller);
  few_named = ⊎_elim (λ (l : question_operands < length (names q)). absurd (s (λ k. let few = k.few_named in omega arith))) (λ (l : length (names q) ≤ question_operands). l) (cases_lt question_operands (length (names q)));
  named_inside = λ u h. ⊎_elim (λ (l : u < users). l) (λ (l : users ≤ u). absurd (s (λ k. let small = k.named_inside u h in omega arith))) (cases_lt u users);
}
  where
    side : Static q.larger ⊎ (Static q.larger → ⊥) → Static q.smaller ⊎ (Static q.smaller → ⊥) → SemiStatic q
    side (inl a) b = inl a
    side (inr n) (inl b) = inr b
    side (inr n) (inr m) = absurd (s (λ k. ⊎_elim n m k.is_semi_static))

-- every inquiry can be asked
pub askable : (x : Inquiry) → Askable (inquired x)
askable x = sure_askable (inquired x) x.askable

module _ (a b : Nodes) (wa : balanced 0 (nodes_of a) ≡ true) (wb : balanced 0 (nodes_of b) ≡ true) where
  many : length (names (stored_question a b)) ≡ length (users_in (nodes_of a)) + length (users_in (nodes_of b))
  many = length-append (named (set_of a)) (named (set_of b)) ∙ sym (ap₂ (λ xs ys. length xs + length ys) (nodes_name a wa) (nodes_name b wb))

  -- what the checks find
  pub asked_told : (m n : ℕ) → SemiStatic (stored_question a b) → m ≡ length (users_in (nodes_of a)) → n ≡ length (users_in (nodes_of b)) → AllInside (users_in (nodes_of a)) → AllInside (users_in (nodes_of b))
      → m + n ≤ question_operands → Askable (stored_question a b)
  asked_told m n semi ma nb ia ib few = record {
    is_semi_static = semi;
    few_named = omega (arith, many, ma, nb);
    named_inside = λ u h. ⊎_elim
        (λ (t : T (listed (named (set_of a)) u)). ia u (subst⁻¹ (λ xs. T (listed xs u)) (nodes_name a wa) t))
        (λ (t : T (listed (named (set_of b)) u)). ib u (subst⁻¹ (λ xs. T (listed xs u)) (nodes_name b wb) t))
        (listed_either (named (set_of a)) (named (set_of b)) u h);
  }

  pub few_told : (m n : ℕ) → m ≡ length (users_in (nodes_of a)) → n ≡ length (users_in (nodes_of b)) → Askable (stored_question a b) → m + n ≤ question_operands
  few_told m n ma nb k = let few = k.few_named in omega (arith, many, ma, nb)
