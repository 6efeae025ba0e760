use Rattle.std.proofs.Common.{sym, ◌∙◌, rules, refl, arith}
use Rattle.rbac.specs.Roles.{roles_of}
use Rattle.tables.specs.View.{rows_of}
use Rattle.tables.proofs.Rowing.{taken, untouched, taken_apart, found_inside}
use Rattle.tables.proofs.tables.Tables.unassign_all.Goals as goal

pub lend-requires : goal.lend-requires
lend-requires c =
    let t = c.args.self.now in
    let at = sym c.place_of.ensures ∙ c.in-Some.is in
    let inside = found_inside (rows_of t) c.in-Some.place c.args.user.number at in
    record {
      inside = omega (arith, inside, t.rows.full);
      callable = search rules;
      apart = λ x ran. taken_apart (rows_of t) c.in-Some.place c.args.user.number at t.rows.apart c.args.roles x (search rules);
    }

pub returns-in-Some : goal.returns-in-Some
returns-in-Some c =
    taken c.args.self.now c.in-Some.place c.args.user.number c.args.roles c.lend.ensures.row (search rules) (sym c.place_of.ensures ∙ c.in-Some.is) _ refl c.lend.ensures.others

pub returns-in_default : goal.returns-in_default
returns-in_default c = untouched c.args.self.now c.args.user.number (roles_of c.args.roles) (sym c.place_of.ensures ∙ c.in_default.is)
