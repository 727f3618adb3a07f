use Rattle.std.proofs.Common.{sym, subst}
use Rattle.place_columns.specs.declared.span.Span.{Span}
use Rattle.tx_model.specs.declared.reply.Verdict.{Verdict}
use Rattle.tx_model.specs.Replies.{taken_by}
use Rattle.multi_rules.specs.Snapped.{AreBetween}
use Rattle.multi_rules.specs.Telling.{IsToldBy, too_old_span}
use Rattle.multi_rules.proofs.Between.{hidden_between, old_between, visible_between}
use Rattle.multi_rules.proofs.Rising.{in_history, never_fall}
use Rattle.multi_rules.proofs.one.span_of.Goals as goal

pub far_below-below-requires : goal.far_below-below-requires
far_below-below-requires g c = never_fall c.args.places.now.base c.args.places.now.events (taken_by g.of.by g.of.number) c.args.taken.now c.legal.ensures.legal c.requires.1.0

pub not_far_above-end-requires : goal.not_far_above-end-requires
not_far_above-end-requires g c = never_fall c.args.places.now.base c.args.places.now.events (taken_by g.of.by g.of.number) c.args.taken.now c.legal.ensures.legal c.requires.1.0

pub unseen-requires : goal.unseen-requires
unseen-requires g c = (c.requires.0, in_history c.args.places.now.base.next c.args.places.now.events (taken_by g.of.by g.of.number) c.args.taken.now c.requires.1.0)

pub unseen-requires-in-Hidden : goal.unseen-requires-in-Hidden
unseen-requires-in-Hidden g c = (c.requires.0, in_history c.args.places.now.base.next c.args.places.now.events (taken_by g.of.by g.of.number) c.args.taken.now c.requires.1.0)

pub returns-in-TooOld : goal.returns-in-TooOld
returns-in-TooOld g c =
    let base = c.args.places.now.base in
    let h = c.args.places.now.events in
    let told = c.args.told in
    let same = c.is_same.ensures.0 c.if-not-is_same.false in
    subst (λ (s : Span). AreBetween (IsToldBy base h g.of c.args.member told) c.args.taken.now s) (sym c.too_old_span.ensures)
    (subst (λ (v : Verdict). AreBetween (IsToldBy base h g.of c.args.member (record { id = told.id; mode = told.mode; verdict = v })) c.args.taken.now (too_old_span c.far_below-below.result c.not_far_above-end.result told.id c.is_carried_past.result)) (sym c.in-TooOld.is)
    (old_between base h g.of (taken_by g.of.by g.of.number) c.args.member told.id told.mode c.args.taken.now c.requires.1.0 same.0 same.1 c.far_below-below.result c.not_far_above-end.result c.far_below-below.ensures c.not_far_above-end.ensures c.is_carried_past.result c.is_carried_past.ensures))

pub returns-in-Visible : goal.returns-in-Visible
returns-in-Visible g c =
    let base = c.args.places.now.base in
    let h = c.args.places.now.events in
    let told = c.args.told in
    let same = c.is_same.ensures.0 c.if-not-is_same.false in
    subst (λ (v : Verdict). AreBetween (IsToldBy base h g.of c.args.member (record { id = told.id; mode = told.mode; verdict = v })) c.args.taken.now (record { from = c.max.result; end = c.not_far_above-end.result })) (sym c.in-Visible.is)
    (visible_between base h g.of (taken_by g.of.by g.of.number) c.args.member told.id told.mode c.args.taken.now c.requires.1.0 same.0 same.1 c.far_below-below.result c.not_far_above-end.result c.far_below-below.ensures c.not_far_above-end.ensures c.unseen.result c.max.result c.unseen.ensures c.max.ensures)

pub returns-in-Hidden : goal.returns-in-Hidden
returns-in-Hidden g c =
    let base = c.args.places.now.base in
    let h = c.args.places.now.events in
    let told = c.args.told in
    let same = c.is_same.ensures.0 c.if-not-is_same.false in
    subst (λ (v : Verdict). AreBetween (IsToldBy base h g.of c.args.member (record { id = told.id; mode = told.mode; verdict = v })) c.args.taken.now (record { from = c.far_below-below.result; end = c.min.result })) (sym c.in-Hidden.is)
    (hidden_between base h g.of (taken_by g.of.by g.of.number) c.args.member told.id told.mode c.args.taken.now c.requires.1.0 same.0 same.1 c.far_below-below.result c.not_far_above-end.result c.far_below-below.ensures c.not_far_above-end.ensures c.unseen-in-Hidden.result c.min.result c.unseen-in-Hidden.ensures c.min.ensures)
