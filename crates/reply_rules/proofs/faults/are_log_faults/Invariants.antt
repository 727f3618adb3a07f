use Rattle.std.proofs.Common.{◌≡◌, false, take}
use Rattle.std.specs.List.{flat_map, list_any}
use Rattle.tx_model.specs.Rounds.{lines_in}
use Rattle.life_law.specs.Facts.{has_log_fault, is_checkpoint_fault}
use Rattle.reply_rules.proofs.faults.are_log_faults.Given as goal

abbrev pub invariant-loop-step : goal.invariant-loop-step
invariant-loop-step l = record {
  lines : has_log_fault (flat_map lines_in (take l.step-index l.steps)) ≡ false;
  steps : list_any is_checkpoint_fault (take l.step-index l.steps) ≡ false;
}
