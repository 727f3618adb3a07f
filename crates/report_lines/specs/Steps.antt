-- What the words of a checkpoint and of a dump say.
use Rattle.std.specs.Prelude.{ℕ, List, codes, cond, Option, Some, None}
use Rattle.std.specs.Str.{bytes_eq}
use Rattle.tx_model.specs.declared.report.DumpOf.{DumpOf}
use Rattle.tx_model.specs.declared.report.DumpOf.TheVariants as dumps
use Rattle.tx_model.specs.declared.report.Step.{Step}
use Rattle.tx_model.specs.declared.report.Step.TheVariants as steps
use Rattle.report_words.specs.Reading.{◌>>=◌, word_at, number_at}
use Rattle.report_words.specs.Members.{small}
use Rattle.report_words.specs.Replies.{checkpoint_reply_at, dump_reply_at}

unfoldable pub page_of : List ℕ → ℕ → Option DumpOf
page_of w page =
    cond (bytes_eq w (codes "xact")) (Some (dumps.Xact page))
    (cond (bytes_eq w (codes "subtrans")) (Some (dumps.Subtrans page))
    (cond (bytes_eq w (codes "offsets")) (Some (dumps.Offsets page))
    (cond (bytes_eq w (codes "members")) (Some (dumps.Members page)) None)))

-- what a dump shows bytes of, and the words behind it
unfoldable pub dumped_at : List (List ℕ) → Option (DumpOf × List (List ℕ))
dumped_at ws = do
  w ← word_at ws
  cond (bytes_eq w.0 (codes "log")) (Some (dumps.Log, w.1))
      (number_at w.1 >>= λ n. small n.0 >>= λ page. page_of w.0 page >>= λ what. Some (what, n.1))

unfoldable pub dump_at : List (List ℕ) → Option Step
dump_at ws = do
  what ← dumped_at ws
  at ← number_at what.1
  n ← number_at at.1
  length ← small n.0
  arrow ← word_at n.1
  reply ← dump_reply_at arrow.1
  Some (steps.Dump what.0 at.0 length reply)

unfoldable pub checkpoint_at : List (List ℕ) → List (List ℕ) → Option Step
checkpoint_at names ws = do
  arrow ← word_at ws
  reply ← checkpoint_reply_at names arrow.1
  Some (steps.Checkpoint reply)

-- the line of a step that has one line
unfoldable pub step_at : List (List ℕ) → List (List ℕ) → Option Step
step_at names ws = do
  w ← word_at ws
  cond (bytes_eq w.0 (codes "checkpoint")) (checkpoint_at names w.1) (cond (bytes_eq w.0 (codes "dump")) (dump_at w.1) None)
