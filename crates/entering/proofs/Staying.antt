-- A draft stays in good order, whatever a line makes of it.
use Rattle.std.proofs.Common.{Ok, Err, Result, refl}
use mathlib.Core.Path.{subst⁻¹}
use Rattle.texts.specs.declared.faults.Way.{Way}
use Rattle.texts.specs.declared.faults.Way.TheVariants.{Add, Remove}
use Rattle.lines.specs.declared.change.Change.{Change}
use Rattle.lines.specs.declared.change.Extra.{Extra}
use Rattle.tables.specs.declared.tables.Tables.{Tables}
use Rattle.book.specs.declared.refusal.Cause.{Cause}
use Rattle.book.specs.Book.{Book, Entry}
use Rattle.book.specs.Entering.{Entered, Readable}
use Rattle.book.specs.Orderly.{Orderly, Said}
use Rattle.book.proofs.Kept.{put_orderly, took_orderly}
use Rattle.drafts.specs.Neat.{Neat}
use Rattle.drafts.specs.View.{book_of}
use Rattle.entering.specs.Laid.{Laid}
use Rattle.book.specs.Says.{line_entry}

keeps_orderly : (w : Way) (b z : Book) (e : Entry) (r : Result (Unit {0}) Cause) → Said e → Entered w b e r z → Orderly b → Orderly z
keeps_orderly Add b z e (Ok u) said (none, is) o = subst⁻¹ Orderly is (put_orderly b o e said none)
keeps_orderly Remove b z e (Ok u) said (none, took) o = took_orderly b o e z took
keeps_orderly w b z e (Err c) said (least, same) o = subst⁻¹ Orderly same o

pub stays_neat : (t z : Tables) (w : Way) (change : Change) (extra : Extra) (x : Readable change extra) (r : Result (Unit {0}) Cause)
    → Entered w (book_of t) (line_entry x.line) r (book_of z) → ((Neat t → ⊥) → ⊥) → ((Laid z → ⊥) → ⊥) → (Neat z → ⊥) → ⊥
stays_neat t z w change extra x r entered neat laid deny = neat (λ n. laid (λ l. deny (record {
  needs_whole = l.needs_whole;
  sides_whole = l.sides_whole;
  trusted_once = l.trusted_once;
  orderly = keeps_orderly w (book_of t) (book_of z) (line_entry x.line) r (record { line = x.line; fine = x.fine; names = refl }) entered n.orderly;
})))
