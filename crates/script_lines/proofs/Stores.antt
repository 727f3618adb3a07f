-- What is dumped of a store.
use Rattle.std.proofs.Common.{ℕ}
use Rattle.tx_model.specs.declared.report.DumpOf.{DumpOf}
use Rattle.tx_model.specs.declared.report.DumpOf.TheVariants as dumps
use Rattle.script_lines.specs.declared.directive.Store.{Store}
use Rattle.script_lines.specs.declared.directive.Store.TheVariants as stores
use Rattle.script_lines.specs.Directives.{on_page}

pub on_each_page : (P : DumpOf → Type 0) (store : Store) (page : ℕ) → P (dumps.Xact page) → P (dumps.Subtrans page) → P (dumps.Offsets page) → P (dumps.Members page) → P (on_page store page)
on_each_page P stores.Xact page x s o m = x
on_each_page P stores.Subtrans page x s o m = s
on_each_page P stores.Offsets page x s o m = o
on_each_page P stores.Members page x s o m = m
