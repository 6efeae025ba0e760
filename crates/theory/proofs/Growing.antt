-- More assigned roles: more members, conditions stay met, sets grow.
use Rattle.std.proofs.Common.{inl, inr}
use Rattle.meaning.specs.Membership.{User, Role, Row, Edges, Member}
use Rattle.meaning.specs.Rules.{Condition, everybody, in_role, both, either, Meets, Policy}
use Rattle.meaning.specs.Sets.{UserSet, members, holders, only, nobody, union, intersection, In}
use Rattle.theory.specs.Reach.{◌⊑◌, MoreAuthority}

module _ (edge : Edges) (x y : Row) (more : x ⊑ y) where
  pub member : (r : Role) → Member edge x r → Member edge y r
  member r (q, senior, h) = (q, senior, more q h)

  pub meets : (c : Condition) → Meets edge x c → Meets edge y c
  meets everybody h = tt
  meets (in_role r) h = member r h
  meets (both c d) h = (meets c h.0, meets d h.1)
  meets (either c d) (inl h) = inl (meets c h)
  meets (either c d) (inr h) = inr (meets d h)

module _ (p : Policy) (x y : Row) (more : x ⊑ y) where
  pub inside : (u : User) (a : UserSet) → In p x u a → In p y u a
  inside u (members r) h = member p.edge x y more r h
  inside u (holders n) h = (h.0, h.1, member p.edge x y more h.0 h.2)
  inside u (only v) h = h
  inside u nobody h = absurd h
  inside u (union a b) (inl h) = inl (inside u a h)
  inside u (union a b) (inr h) = inr (inside u b h)
  inside u (intersection a b) h = (inside u a h.0, inside u b h.1)

  pub larger : MoreAuthority p x y
  larger = record { members = member p.edge x y more; conditions = meets p.edge x y more; sets = inside }
