-- A change whose text is not refused makes one book.
use Rattle.std.proofs.Common.{◌≡◌, ℕ, ◌<◌, List, ◌∷◌, sym, refl, ◌∙◌, inl, inr, arith, lit<}
use mathlib.Core.Path.{subst⁻¹}
use Rattle.lines.specs.Languages.{Says}
use Rattle.lines.specs.Lines.{lines, Fine}
use Rattle.texts.specs.Answers.{Changing, changes, sign_of}
use Rattle.texts.specs.declared.faults.Way.{Way}
use Rattle.texts.specs.declared.faults.Way.TheVariants.{Add, Remove}
use Rattle.book.specs.Book.{Book, Entry}
use Rattle.book.specs.Orderly.{Orderly}
use Rattle.book.specs.Calls.{ChangeRefuses, Makes, WouldMake}
use Rattle.book.proofs.Made.{one_book}
use Rattle.boardtext.proofs.Alone.{lone_line}
use Rattle.boardtext.proofs.Once.{truth}
use Rattle.book.specs.Says.{line_entry}

-- ---- the text of a change

same_sign : (w v : Way) → sign_of w ≡ sign_of v → w ≡ v
same_sign Add Add e = refl
same_sign Remove Remove e = refl
same_sign Add Remove e = absurd (omega (arith, e))
same_sign Remove Add e = absurd (omega (arith, e))

module _ (b : Book) (text : List ℕ) (list work : ℕ) (clear : (n : ℕ) → n < 7 → ChangeRefuses b text list work n → ⊥) where
  fine : (f : Changing) → Says changes text f → Fine f.line
  fine f s = record {
    proper = s.1;
    ranged = truth (lines.ranged f.line) (λ e. clear 4 (lit< tt) (inl (inr (inr (inl (refl, (f, s, e)))))));
    small = truth (lines.small f.line) (λ e. clear 5 (lit< tt) (inl (inr (inr (inr (inl (refl, (f, s, e))))))));
    semi_static = truth (lines.semi_static f.line) (λ e. clear 6 (lit< tt) (inl (inr (inr (inr (inr (inl (refl, (f, s, e)))))))));
  }

  -- whatever says the text goes the same way, and names the same
  same_change : (f g : Changing) → Says changes text f → Says changes text g → (f.way ≡ g.way) × (line_entry f.line ≡ line_entry g.line)
  same_change f g s t =
      let e : sign_of f.way ∷ lines.bytes f.line ≡ sign_of g.way ∷ lines.bytes g.line = sym s.0 ∙ t.0 in
      let sign : sign_of f.way ≡ sign_of g.way = cc in
      let bytes : lines.bytes f.line ≡ lines.bytes g.line = cc in
      (same_sign f.way g.way sign, sym ((lone_line f.line (fine f s)).names g.line (bytes, t.1)))

  -- ---- what it makes

  module _ (o : Orderly b) where
    made_once : (f g : Changing) (y z : Book) → Says changes text f → Says changes text g → Makes f.way (line_entry f.line) b y → Makes g.way (line_entry g.line) b z → y ≡ z
    made_once f g y z s t x w =
        let same = same_change f g s t in
        one_book b o.assigns_once o.revokes_once o.requirements_once f.way (line_entry f.line) y z x
        (subst⁻¹ (λ (v : Way). Makes v (line_entry f.line) b z) same.0 (subst⁻¹ (λ (e : Entry). Makes g.way e b z) same.1 w))

  -- the change makes one book
  pub change_once : Orderly b → (y z : Book) → WouldMake b text y → WouldMake b text z → y ≡ z
  change_once o y z (f, s, x) (g, t, w) = made_once o f g y z s t x w
