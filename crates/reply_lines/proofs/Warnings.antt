-- A multixact's warning by the front of a history that has the command's events.
use Rattle.std.proofs.Common.{◌↔◌, ℕ, ◌<◌, ◌≤◌, List, refl, sym, subst, ◌∙◌, take, arith}
use Rattle.tx_events.specs.declared.event.By.{By}
use Rattle.tx_events.specs.declared.multi.MultiEvent.{MultiEvent}
use Rattle.tx_events.specs.declared.multi.MultiEvent.TheVariants as multis
use Rattle.tx_events.specs.declared.record.Counters.{Counters}
use Rattle.tx_events.specs.Limits.{multi_warn_limit}
use Rattle.tx_events.specs.Multis.{oldest_multi}
use Rattle.report_law.specs.MultiLines.{IsMultiWarned}
use Rattle.report_law.proofs.Fronts.{got, got_within, taken}
use Rattle.report_law.proofs.FrontsOfMultis.{AreMultisWithin}

pub multi_warned_whole : (base : Counters) (all : List MultiEvent) (n : ℕ) (by : By) (multi : ℕ) → AreMultisWithin all n by → IsMultiWarned base (take n all) by multi ↔ IsMultiWarned base all by multi
multi_warned_whole base all n by multi within = (
  λ w.
      let l : w.place < n = got_within w.place n all (multis.Gen by multi w.offset w.members) w.given in
      record {
        place = w.place;
        offset = w.offset;
        members = w.members;
        given = sym (got w.place n all l) ∙ w.given;
        late = subst (λ (t : List MultiEvent). multi_warn_limit (oldest_multi base.oldest_multi t) ≤ multi) (taken w.place n all (omega arith)) w.late;
      },
  λ w.
      let l : w.place < n = within w.place (multis.Gen by multi w.offset w.members) w.given refl in
      record {
        place = w.place;
        offset = w.offset;
        members = w.members;
        given = got w.place n all l ∙ w.given;
        late = subst (λ (t : List MultiEvent). multi_warn_limit (oldest_multi base.oldest_multi t) ≤ multi) (sym (taken w.place n all (omega arith))) w.late;
      },
)
