use Rattle.std.proofs.Common.{◌≡◌, ◌==◌, ℕ, List, sym, ap, ◌∙◌}
use Rattle.std.specs.BTreeSet.{contains}
use Rattle.std.specs.List.{flat_map, list_any}
use Rattle.std.specs.Ordering.{nat_cmp}
use Rattle.report_law.specs.Begun.{committed_by}
use Rattle.life_tables.proofs.Logging.{recorded_iff}
use Rattle.life_tables.proofs.making.recorded_in.Goals as goal

pub returns : goal.returns
returns c = λ x.
    let told : contains nat_cmp c.of.result x ≡ list_any (λ z. z == x) (flat_map committed_by c.args.recs.now) = c.of.ensures x ∙ ap (λ (t : List ℕ). list_any (λ z. z == x) t) c.in_ok-ids.ensures in
    let i = recorded_iff c.args.recs.now x in
    (λ t. i.0 (sym told ∙ t), λ r. told ∙ i.1 r)
