use Rattle.std.proofs.Common.{◌≡◌, ◌↔◌, List, IsTrue, take, sym, subst, ◌∙◌, ap}
use Rattle.tx_events.specs.declared.event.Event.{Event}
use Rattle.tx_model.specs.declared.report.DumpOf.{DumpOf}
use Rattle.dump_rules.specs.Shown.{ShowsNumber, ShowsParent, ShowsState}
use Rattle.dump_rules.proofs.shown.shows_number.Goals as goal

pub returns-in-Xact : goal.returns-in-Xact
returns-in-Xact g c =
    let same : take c.args.place c.args.places.now.events ≡ take g.b.place g.b.events = ap (take c.args.place) c.requires.0 ∙ ap (λ n. take n g.b.events) c.requires.1.1.0 in
    subst (λ (w : DumpOf). IsTrue c.shows_state.result ↔ ShowsNumber g.b w c.args.at c.args.bytes.now c.args.number) (sym c.in-Xact.is)
    (subst (λ (h : List Event). IsTrue c.shows_state.result ↔ ShowsState h c.in-Xact.page c.args.at c.args.bytes.now c.args.number) same c.shows_state.ensures)

pub returns-in-Subtrans : goal.returns-in-Subtrans
returns-in-Subtrans g c =
    let same : take c.args.place c.args.places.now.events ≡ take g.b.place g.b.events = ap (take c.args.place) c.requires.0 ∙ ap (λ n. take n g.b.events) c.requires.1.1.0 in
    subst (λ (w : DumpOf). IsTrue c.shows_parent.result ↔ ShowsNumber g.b w c.args.at c.args.bytes.now c.args.number) (sym c.in-Subtrans.is)
    (subst (λ (h : List Event). IsTrue c.shows_parent.result ↔ ShowsParent h c.in-Subtrans.page c.args.at c.args.bytes.now c.args.number) same c.shows_parent.ensures)

pub returns-in-Offsets : goal.returns-in-Offsets
returns-in-Offsets g c = subst (λ (w : DumpOf). IsTrue c.shows_offset.result ↔ ShowsNumber g.b w c.args.at c.args.bytes.now c.args.number) (sym c.in-Offsets.is) c.shows_offset.ensures

pub returns-in-Members : goal.returns-in-Members
returns-in-Members g c = subst (λ (w : DumpOf). IsTrue c.shows_member.result ↔ ShowsNumber g.b w c.args.at c.args.bytes.now c.args.number) (sym c.in-Members.is) c.shows_member.ensures
