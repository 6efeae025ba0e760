-- A set of roles that is gathered from a list, one entry after another.
use Rattle.std.proofs.Common.{◌≡◌, ℕ, Bool, ◌||◌, List, ap, subst}
use denote.Param.Members.{Mut}
use denote.Ref.{Bor}
use Rattle.std.specs.Fn.{Called}
use Rattle.std.specs.List.{FoldsTo}
use Rattle.std.specs.Iterator.{Drains}
use Rattle.std.specs.declared.slice.Iter.{Iter}
use Rattle.std.proofs.lemmas.Fn.{fold_over, slice_gives, fronts}
use Rattle.rbac.specs.declared.sets.RoleSet.{RoleSet}
use Rattle.rbac.specs.Roles.{roles_of, no_role}
use Rattle.tables.proofs.Listing.{any, any_joined}

-- where each call joins what one entry has, the fold from no role has what the entries have
pub gathered : {A F : Type 0} (g : Mut F (RoleSet × (Bor A × Unit {0})) RoleSet) (f : F) (has : A → ℕ → Bool)
    → ((a : RoleSet) (x : Bor A) (b : RoleSet) (f' : F) → Called g f (a, (x, tt)) b f' → ((r : ℕ) → roles_of b r ≡ (roles_of a r || has x.now r)) × (f' ≡ f))
    → (s : Iter A) (items : List A) → s.rest.now ≡ items → (start end : RoleSet) → roles_of start ≡ no_role
    → (xs : List (Bor A)) × (f' : F) × Drains fronts s xs × FoldsTo {P = F × RoleSet} (λ p x q. Called g p.0 (p.1, (x, tt)) q.1 q.0) (f, start) xs (f', end)
    → (r : ℕ) → roles_of end r ≡ any has items r
gathered g f has step s items is start end none ran = subst (λ ys. (r : ℕ) → roles_of end r ≡ any has ys r) is
    (fold_over fronts (λ y. y.now) g (λ ys t. (r : ℕ) → roles_of t r ≡ any has ys r) f
    (λ ys a x b f' j k. let (joined, same) = step a x b f' k in (any_joined has ys x.now (roles_of a) (roles_of b) j joined, same))
    s s.rest.now start end (slice_gives s) (λ r. ap (λ h. h r) none) ran)
