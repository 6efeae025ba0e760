use Rattle.std.proofs.Common.{rules, refl, arith}
use Rattle.rbac.specs.Roles.{roles_of}
use Rattle.tables.specs.View.{rows_of}
use Rattle.tables.proofs.Rowing.{found_or_fresh, refused, given_apart, given_inside}
use Rattle.tables.proofs.tables.Tables.assign_all.Goals as goal

pub lend-requires : goal.lend-requires
lend-requires c =
    let t = c.args.self.now in
    let inside = given_inside (rows_of t) c.in_ok-place.place c.args.user c.args.roles c.place_of.result c.or_else.result c.place_of.ensures (search rules) (search rules) in
    record {
      inside = omega (arith, inside, t.rows.full);
      callable = search rules;
      apart = λ x ran. given_apart (rows_of t) c.in_ok-place.place c.args.user c.args.roles c.place_of.result c.or_else.result c.place_of.ensures (search rules) (search rules) t.rows.apart x (search rules);
    }

pub returns : goal.returns
returns c =
    found_or_fresh c.args.self.now c.in_ok-place.place c.args.user c.args.roles c.lend.ensures.row (search rules) (search rules) c.place_of.result c.or_else.result
    c.place_of.ensures (search rules) (search rules) _ refl c.lend.ensures.others

pub returns-in_err-place : goal.returns-in_err-place
returns-in_err-place c =
    refused c.args.self.now c.args.user.number (roles_of c.args.roles) c.place_of.result c.or_else.result c.place_of.ensures c.in_err-place.ensures.ok_part (search rules) c.from_residual.result c.from_residual.ensures.0
