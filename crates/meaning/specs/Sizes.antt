-- What the code's table of measures holds.
use Rattle.meaning.specs.declared.measures.Sizes.{Sizes}
use Rattle.meaning.specs.Measures as Measures

-- each measure of the code is the subject's
abbrev pub measured : Sizes
measured = record {
  users = Measures.users;
  roles = Measures.roles;
  permissions = Measures.permissions;
  rows = Measures.rows;
  assigns = Measures.assign_rules;
  revokes = Measures.revoke_rules;
  trusted = Measures.trusted_users;
  requirements = Measures.requirements;
  condition = Measures.condition_operands;
  question = Measures.question_operands;
  hires = Measures.hires;
  tracked = Measures.tracked_users;
  words = Measures.work_words;
  places = Measures.list_places;
}
