use Rattle.std.proofs.Common.{◌-◌, subst, sym}
use Rattle.tx_events.specs.declared.event.By.{By}
use Rattle.multi_rules.specs.MultiReadings.{IsMultiReading, span_of}
use Rattle.reply_lines.specs.At.{multi_round_of}
use Rattle.reply_lines.specs.declared.known.Known.{Known}
use Rattle.reply_lines.proofs.Spots.{asked, by_is}
use Rattle.reply_lines.proofs.by_multis.read_before.Goals as goal

pub multi_reading_at-requires : goal.multi_reading_at-requires
multi_reading_at-requires g c =
    let x = asked g.s c.args.known.now c.args.asking c.requires in
    (c.requires.known_is, (x.known, (x.few, x.multi_forward)))

pub returns : goal.returns
returns g c =
    let s = g.s in
    let a = c.args.asking in
    let r = c.requires in
    let x = asked s c.args.known.now a r in
    let first : IsMultiReading c.args.known.now.multi_places.events (multi_round_of s) (record { session = a.by.session; command = c.saturating_sub.result }) c.multi_reading_at.result =
    subst (λ n. IsMultiReading c.args.known.now.multi_places.events (span_of n (multi_round_of s).to) (record { session = a.by.session; command = c.saturating_sub.result }) c.multi_reading_at.result) x.multi_from
    (subst (λ n. IsMultiReading c.args.known.now.multi_places.events (span_of a.multi_from n) (record { session = a.by.session; command = c.saturating_sub.result }) c.multi_reading_at.result) x.multi_to c.multi_reading_at.ensures) in
    subst (λ (m : Known). IsMultiReading m.multi_places.events (multi_round_of s) (record { session = s.asking.by.session; command = s.asking.by.command - 1 }) c.multi_reading_at.result) (sym r.known_is)
    (subst (λ (b : By). IsMultiReading c.args.known.now.multi_places.events (multi_round_of s) (record { session = b.session; command = b.command - 1 }) c.multi_reading_at.result) (sym (by_is s c.args.known.now a r))
    (subst (λ n. IsMultiReading c.args.known.now.multi_places.events (multi_round_of s) (record { session = a.by.session; command = n }) c.multi_reading_at.result) c.saturating_sub.ensures first))
