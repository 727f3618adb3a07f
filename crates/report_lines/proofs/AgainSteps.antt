-- Checkpoints and dumps are read again.
use Rattle.std.proofs.Common.{rules, ◌≡◌, ℕ, ◌-◌, ◌^◌, ◌<◌, ◌≤◌, List, ◌∷◌, ◌++◌, Some, refl, arith, codes, length, take, drop}
use Rattle.std.specs.Fmt.{decimal}
use Rattle.tx_model.specs.declared.reply.Reply.{Reply}
use Rattle.tx_model.specs.declared.report.DumpOf.{DumpOf}
use Rattle.tx_model.specs.declared.report.DumpOf.TheVariants as dumps
use Rattle.tx_model.specs.declared.report.Step.{Step}
use Rattle.tx_model.specs.declared.report.Step.TheVariants as steps
use Rattle.report_text.specs.ReplyText.{reply_words}
use Rattle.report_text.specs.ReportText.{dump_words, step_text}
use Rattle.report_words.specs.Words.{behind, AreWords}
use Rattle.report_words.specs.Fits.{AreNames}
use Rattle.report_words.proofs.Again.{number_at_again, number_word, line_gives}
use Rattle.report_lines.specs.Steps.{page_of, dumped_at, dump_at, checkpoint_at, step_at}
use Rattle.report_words.specs.Fits.{FitsCheckpointReply, FitsDumpReply}
use Rattle.report_lines.specs.Fits.{FitsDump, FitsStep}
use Rattle.report_words.proofs.AgainMembers.{small_again, words_append}
use Rattle.report_words.proofs.AgainReplies.{checkpoint_reply_again, dump_reply_again, checkpoint_are_words, dump_are_words}

dumped_again : (w : DumpOf) (at n : ℕ) (ws : List (List ℕ)) → FitsDump w at n → dumped_at (dump_words w ++ ws) ≡ Some (w, ws)
unfolding dumped_at page_of
dumped_again dumps.Log at n ws f = refl
dumped_again (dumps.Xact page) at n ws f = rw (number_at_again page ws (omega arith), small_again page f.0) refl
dumped_again (dumps.Subtrans page) at n ws f = rw (number_at_again page ws (omega arith), small_again page f.0) refl
dumped_again (dumps.Offsets page) at n ws f = rw (number_at_again page ws (omega arith), small_again page f.0) refl
dumped_again (dumps.Members page) at n ws f = rw (number_at_again page ws (omega arith), small_again page f.0) refl

dump_are : (w : DumpOf) (at n : ℕ) → FitsDump w at n → AreWords (dump_words w)
dump_are dumps.Log at n f = search rules
dump_are (dumps.Xact page) at n f = (search rules, (number_word page (omega arith), tt))
dump_are (dumps.Subtrans page) at n f = (search rules, (number_word page (omega arith), tt))
dump_are (dumps.Offsets page) at n f = (search rules, (number_word page (omega arith), tt))
dump_are (dumps.Members page) at n f = (search rules, (number_word page (omega arith), tt))

at_fits : (w : DumpOf) (at n : ℕ) → FitsDump w at n → at < 2 ^ 64
at_fits dumps.Log at n f = omega arith
at_fits _ at n f = omega arith

length_fits : (w : DumpOf) (at n : ℕ) → FitsDump w at n → n < 2 ^ 32
length_fits dumps.Log at n f = omega arith
length_fits _ at n f = omega arith

dump_again : (names : List (List ℕ)) (what : DumpOf) (at n : ℕ) (r : Reply) → FitsDump what at n → FitsDumpReply r → dump_at (dump_words what ++ decimal at ∷ decimal n ∷ codes "->" ∷ reply_words names r) ≡ Some (steps.Dump what at n r)
unfolding dump_at
dump_again names what at n r f i =
    let l = length_fits what at n f in
    rw (dumped_again what at n (decimal at ∷ decimal n ∷ codes "->" ∷ reply_words names r) f, number_at_again at (decimal n ∷ codes "->" ∷ reply_words names r) (at_fits what at n f), number_at_again n (codes "->" ∷ reply_words names r) (omega arith), small_again n l, dump_reply_again names r i) refl

checkpoint_again : (names : List (List ℕ)) (r : Reply) → AreNames names → FitsCheckpointReply names r → checkpoint_at names (codes "->" ∷ reply_words names r) ≡ Some (steps.Checkpoint r)
unfolding checkpoint_at
checkpoint_again names r n f = rw (checkpoint_reply_again names r n f) refl

pub checkpoint_words : (names : List (List ℕ)) (r : Reply) → AreNames names → FitsCheckpointReply names r → AreWords (codes "checkpoint" ∷ codes "->" ∷ reply_words names r)
checkpoint_words names r n f = (search rules, (search rules, checkpoint_are_words names r n f))

pub dumped_are_words : (names : List (List ℕ)) (what : DumpOf) (at n : ℕ) (r : Reply) → FitsDump what at n → FitsDumpReply r → AreWords (codes "dump" ∷ (dump_words what ++ decimal at ∷ decimal n ∷ codes "->" ∷ reply_words names r))
dumped_are_words names what at n r f i =
    let l = length_fits what at n f in
    (search rules, words_append (dump_words what) (decimal at ∷ decimal n ∷ codes "->" ∷ reply_words names r) (dump_are what at n f) (number_word at (at_fits what at n f), (number_word n (omega arith), (search rules, dump_are_words names r i))))

-- a step's line gives the step
pub step_line_again : (names : List (List ℕ)) (bytes : List ℕ) (s : Step) → AreNames names → 1 ≤ length bytes → FitsStep names s → drop 1 bytes ≡ step_text names s → step_at names (behind (take (length bytes - 1) bytes)) ≡ Some s
unfolding step_at step_text
step_line_again names bytes (steps.Round number lines) n k f t = absurd f
step_line_again names bytes (steps.Checkpoint reply) n k f t =
    line_gives (step_at names) bytes (codes "checkpoint") (codes "->" ∷ reply_words names reply) (Some (steps.Checkpoint reply)) k (checkpoint_again names reply n f) (checkpoint_words names reply n f) t
step_line_again names bytes (steps.Dump what from size reply) n k f t =
    line_gives (step_at names) bytes (codes "dump") (dump_words what ++ decimal from ∷ decimal size ∷ codes "->" ∷ reply_words names reply) (Some (steps.Dump what from size reply)) k (dump_again names what from size reply f.0 f.1) (dumped_are_words names what from size reply f.0 f.1) t
