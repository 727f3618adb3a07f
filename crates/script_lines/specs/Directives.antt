-- What a directive behind the header says, by its words.
use Rattle.std.specs.Prelude.{ℕ, ◌+◌, ◌^◌, nat_lt, List, [], ◌∷◌, codes, cond, Result, Ok, Err}
use Rattle.std.specs.Str.{bytes_eq}
use Rattle.tx_model.specs.declared.report.How.{How}
use Rattle.tx_model.specs.declared.report.How.TheVariants as hows
use Rattle.tx_model.specs.declared.report.DumpOf.{DumpOf}
use Rattle.tx_model.specs.declared.report.DumpOf.TheVariants as dumps
use Rattle.script_lines.specs.declared.directive.Directive.{Directive}
use Rattle.script_lines.specs.declared.directive.Directive.TheVariants as directives
use Rattle.script_lines.specs.declared.directive.Store.{Store}
use Rattle.script_lines.specs.declared.directive.Store.TheVariants as stores
use Rattle.script_lines.specs.declared.kind.Kind.{Kind}
use Rattle.script_lines.specs.declared.kind.Kind.TheVariants as kinds
use Rattle.script_lines.specs.Kinds.{◌>>=◌, fault_if}
use Rattle.script_lines.specs.Arguments.{none_of, one_of, two_of, three_of, number_in, stored_in}

unfoldable pub how_in : List ℕ → Result How Kind
how_in w =
    cond (bytes_eq w (codes "lost")) (Ok hows.Lost)
    (cond (bytes_eq w (codes "kept")) (Ok hows.Kept)
    (cond (bytes_eq w (codes "torn")) (Ok hows.Torn) (Err kinds.Name)))

unfoldable pub store_in : List ℕ → Result Store Kind
store_in w =
    cond (bytes_eq w (codes "xact")) (Ok stores.Xact)
    (cond (bytes_eq w (codes "subtrans")) (Ok stores.Subtrans)
    (cond (bytes_eq w (codes "offsets")) (Ok stores.Offsets)
    (cond (bytes_eq w (codes "members")) (Ok stores.Members) (Err kinds.Name))))

abbrev pub on_page : Store → ℕ → DumpOf
on_page stores.Xact page = dumps.Xact page
on_page stores.Subtrans page = dumps.Subtrans page
on_page stores.Offsets page = dumps.Offsets page
on_page stores.Members page = dumps.Members page

-- behind `.dump log`: a place and a length
unfoldable pub log_dump_in : List (List ℕ) → Result Directive Kind
log_dump_in ws = do
  two ← two_of ws
  at ← number_in 0 (2 ^ 40) two.0
  size ← number_in 1 64 two.1
  Ok (directives.Dump dumps.Log at size)

-- behind `.dump STORE`: a page, a place on it and a length, all of it on the page
unfoldable pub page_dump_in : List ℕ → List (List ℕ) → Result Directive Kind
page_dump_in w ws = do
  three ← three_of ws
  store ← store_in w
  page ← stored_in 0 three.0
  at ← number_in 0 8192 three.1
  size ← number_in 1 64 three.2
  _ ← fault_if (nat_lt 8192 (at + size)) kinds.Number
  Ok (directives.Dump (on_page store page) at size)

abbrev pub dump_at : List (List ℕ) → Result Directive Kind
dump_at [] = Err kinds.Arguments
dump_at (w ∷ ws) = cond (bytes_eq w (codes "log")) (log_dump_in ws) (page_dump_in w ws)

-- by the directive's own word. One of the header comes late here.
unfoldable pub directive_at : List ℕ → List (List ℕ) → Result Directive Kind
directive_at w ws =
    cond (bytes_eq w (codes ".round")) (none_of ws >>= λ _. Ok directives.Round)
    (cond (bytes_eq w (codes ".checkpoint")) (none_of ws >>= λ _. Ok directives.Checkpoint)
    (cond (bytes_eq w (codes ".crash")) (one_of ws >>= how_in >>= λ how. Ok (directives.Crash how))
    (cond (bytes_eq w (codes ".dump")) (dump_at ws) (Err kinds.Directive))))
