-- The table of refusals of an entry, gone through from its lowest number.
use Rattle.std.proofs.Common.{◌⊎◌, lit<}
use Rattle.texts.specs.declared.faults.Way.TheVariants.{Add, Remove}
use Rattle.book.specs.Book.{Book, Entry}
use Rattle.book.specs.Grounds.{WrongRegime, NamedTwice, There, Missing, NoRoom, ClosesCircle}
use Rattle.book.specs.Refusals.{Least, entered, NoneApplies}
use Rattle.book.proofs.Ladder.{end, pass, here, skip}

module _ (b : Book) (e : Entry) where
  pub added : (WrongRegime b e → ⊥) → (There b e ⊎ NamedTwice e → ⊥) → (NoRoom b e → ⊥) → (ClosesCircle b e → ⊥) → NoneApplies (entered Add b e)
  added right new room straight = pass right (pass new (pass room (pass straight end)))

  pub wrong_to_add : WrongRegime b e → Least (entered Add b e) 8
  wrong_to_add h = here h (lit< tt, (lit< tt, (lit< tt, tt)))

  pub there : (WrongRegime b e → ⊥) → There b e ⊎ NamedTwice e → Least (entered Add b e) 10
  there right h = skip right (here h (lit< tt, (lit< tt, tt)))

  pub full : (WrongRegime b e → ⊥) → (There b e ⊎ NamedTwice e → ⊥) → NoRoom b e → Least (entered Add b e) 13
  full right new h = skip right (skip new (here h (lit< tt, tt)))

  pub circle : (WrongRegime b e → ⊥) → (There b e ⊎ NamedTwice e → ⊥) → (NoRoom b e → ⊥) → ClosesCircle b e → Least (entered Add b e) 14
  circle right new room h = skip right (skip new (skip room (here h tt)))

  pub removed : (WrongRegime b e → ⊥) → (NamedTwice e → ⊥) → (Missing b e → ⊥) → NoneApplies (entered Remove b e)
  removed right once all = pass right (pass once (pass all end))

  pub wrong_to_remove : WrongRegime b e → Least (entered Remove b e) 8
  wrong_to_remove h = here h (lit< tt, (lit< tt, tt))

  pub twice : (WrongRegime b e → ⊥) → NamedTwice e → Least (entered Remove b e) 10
  twice right h = skip right (here h (lit< tt, tt))

  pub missing : (WrongRegime b e → ⊥) → (NamedTwice e → ⊥) → Missing b e → Least (entered Remove b e) 11
  missing right once h = skip right (skip once (here h tt))
