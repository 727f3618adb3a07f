-- What a life's dumps are held against.
use Rattle.std.specs.Prelude.{◌≡◌, Bool, true, false}
use Rattle.std.specs.List.{list_any}
use Rattle.tx_model.specs.declared.report.Step.{Step}
use Rattle.tx_model.specs.declared.report.Step.TheVariants as steps
use Rattle.report_law.specs.Dumps.{is_faulty_step}
use Rattle.report_law.specs.Steps.{Judged, gave_multi, lines_of}
use Rattle.dump_rules.specs.Cutting.{AreCuts}
use Rattle.dump_rules.specs.Gens.{AreGens}
use Rattle.reply_lines.specs.declared.known.Known.{Known}
use Rattle.report_check.specs.declared.dumps.Dumping.{Dumping}

abbrev pub is_dump : Step → Bool
is_dump (steps.Dump what at length reply) = true
is_dump step = false

-- the cutoffs that the life's stores may have, and the multixacts that it gave, by the legal fronts of its histories, and
-- whether a volume is told to have failed, where a dump is held against them
pub record IsDumping (j : Judged) (k : Known) (d : Dumping) : Type 0 where
  pub cuts : list_any is_dump j.steps ≡ true → AreCuts j.begun.counters j.life.recs k.places.events d.cuts
  pub gens : list_any is_dump j.steps ≡ true → AreGens (gave_multi (lines_of j)) k.multi_places.events d.gens.items
  pub faulty : list_any is_dump j.steps ≡ true → d.faulty ≡ list_any is_faulty_step j.steps
