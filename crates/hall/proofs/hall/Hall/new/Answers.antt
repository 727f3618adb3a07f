use Rattle.std.proofs.Common.{rules, ◌≡◌, ap, ◌∙◌, sym, subst, refl, ℕ, List, map, length}
use Rattle.hall.specs.Layout.{Starts}
use Rattle.hall.proofs.Carrying.{all_full, some_same}
use Rattle.hall.proofs.Starting.{opens_from, fits_first}
use Rattle.hall.proofs.hall.Hall.new.Goals as goal

pub new-requires : goal.new-requires
new-requires g c =
    let r = c.requires in let words = c.in-Ok.ensures in let n = c.len-cells.ensures in
    opens_from _ _ _ _ _ c.args.from.value _ (length c.args.values.items) c.args.posts.items c.as_slice-2.result.now c.wrap.new.slots.items c.args.values.items r.passes.0 r.passes.2 refl
    (let P : ℕ × List ℕ × List ℕ → Type 0 = λ z. Starts z.0 z.1 z.2 in let count : c.len-cells.result ≡ length c.args.values.items = search rules in subst P (λ i. (count i, c.as_slice.ensures.value i, sym c.as_slice-2.ensures.value i)) words.0)
    c.wrap.ensures.items r.places r.locks r.kept r.stand r.shown

pub invariant_of-pass : goal.invariant_of-pass
invariant_of-pass g c =
    let r = c.requires in let n = c.in-Ok-new.ensures.ok in
    record { fits = fits_first c.args.from.value c.args.passes _ _ _ _ r.passes.0 r.passes.2 (search rules) c.first.ensures.own c.first.ensures.held n.4 }

pub unwrap-requires-clause-full : goal.unwrap-requires-clause-full
unwrap-requires-clause-full g c = all_full _ _ (ap (map (λ h. h.value)) c.in-Err.ensures.err ∙ c.wrap.ensures.items)

pub returns-clause-refused : goal.returns-clause-refused
returns-clause-refused g c = some_same _ _ (c.unwrap.ensures ∙ (ap (map (λ h. h.value)) c.in-Err.ensures.err ∙ c.wrap.ensures.items))
