use Rattle.std.proofs.Common.{List, Bool, drop, length, map, sym, ap, ◌∙◌}
use Rattle.std.proofs.lemmas.List.{drop-map}
use Rattle.tx_events.specs.declared.multi.MultiEvent.{MultiEvent}
use Rattle.tx_events.specs.Multis.{multi_by}
use Rattle.life_tables.proofs.Logging.{tail_is}
use Rattle.life_tables.proofs.making.late_of.Goals as goal

pub late_multis-requires : goal.late_multis-requires
late_multis-requires g c =
    let n = length c.events-from.result.now in
    tail_is n c.args.oks.now
    ∙ ap (λ (bs : List Bool). drop n bs) c.requires.1
    ∙ drop-map (λ (e : MultiEvent). g.ok (multi_by e)) n c.args.multis.now
    ∙ ap (λ (es : List MultiEvent). map (λ (e : MultiEvent). g.ok (multi_by e)) es) (sym (tail_is n c.args.multis.now))
