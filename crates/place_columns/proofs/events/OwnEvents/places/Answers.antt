use Rattle.std.proofs.Common.{ℕ, List, ◌≤◌, ◌∙◌, ap, subst, sym, length}
use Rattle.std.specs.List.{between}
use Rattle.place_columns.specs.Lined.{Numbered, places_of}
use Rattle.place_columns.proofs.Making.{part_is, part_rises, part_within}
use Rattle.place_columns.proofs.events.OwnEvents.places.Goals as goal

pub part-requires-clause-from : goal.part-requires-clause-from
part-requires-clause-from c =
    let o = c.self.inside in
    let line : c.args.line ≤ length o.steps.items = subst (λ (v : Numbered). c.args.line ≤ length v.steps) (sym c.self.view_is) c.requires in
    part_rises o.steps.items o.numbers.items o.ranks.items o.counts.items o.places.items o.reach.items o.latest.items c.self.invariant c.args.line line
    c.index-from.result.now c.index-end.result.now c.index-from.ensures c.index-end.ensures

pub part-requires-clause-end : goal.part-requires-clause-end
part-requires-clause-end c =
    let o = c.self.inside in
    let line : c.args.line ≤ length o.steps.items = subst (λ (v : Numbered). c.args.line ≤ length v.steps) (sym c.self.view_is) c.requires in
    subst (λ (t : List ℕ). c.index-end.result.now ≤ length t) (sym c.as_slice.ensures.value)
    (part_within o.steps.items o.numbers.items o.ranks.items o.counts.items o.places.items o.reach.items o.latest.items c.self.invariant c.args.line line
    c.index-end.result.now c.index-end.ensures)

pub returns : goal.returns
returns c =
    let o = c.self.inside in
    let line : c.args.line ≤ length o.steps.items = subst (λ (v : Numbered). c.args.line ≤ length v.steps) (sym c.self.view_is) c.requires in
    c.part.ensures
    ∙ ap (λ (t : List ℕ). between c.index-from.result.now c.index-end.result.now t) c.as_slice.ensures.value
    ∙ part_is o.steps.items o.numbers.items o.ranks.items o.counts.items o.places.items o.reach.items o.latest.items c.self.invariant c.args.line line
    c.index-from.result.now c.index-end.result.now c.index-from.ensures c.index-end.ensures
    ∙ ap (λ (v : Numbered). places_of c.args.line v.numbers) c.self.view_is
