use Rattle.std.proofs.Common.{arith, ap, ◌∙◌, refl}
use mathlib.Core.Option.{none}
use Rattle.atomic_table.specs.Table.{step}
use Rattle.hall.proofs.Fitting.{slot_inside, release_allowed, release_tells, fits_released}
use Rattle.hall.proofs.Owning.{is_of}
use Rattle.hall.proofs.hall.Hall.put_back.Goals as goal

pub slot_mut-requires : goal.slot_mut-requires
slot_mut-requires g c = (c.requires.own.table, slot_inside _ _ _ _ _ c.args.pass.now.fits c.requires.inside)

pub store-requires : goal.store-requires
store-requires g c =
    let left = c.restore-gone.ensures.left in let f = c.args.pass.now.fits in let sized = c.args.self.now.sized in let lt = (f.inside _ c.requires.inside).1 in let at = c.line_at-word.ensures in
    let slots = ap (λ z. z.slots) c.requires.own.table in let words = sized.1 in let deep = sized.0 in (
      c.requires.own.table,
      omega arith,
      release_allowed _ _ _ _ _ f _ _ _ _ _ _ _ _ _ _ _ _ c.restore-gone.new.self _ at c.requires.inside refl (ap (λ z. z.value) left) c.requires.stands,
    )

pub invariant_of-pass : goal.invariant_of-pass
invariant_of-pass g c =
    let s = c.store.ensures in let f = c.args.pass.now.fits in
    let t = release_tells _ _ _ _ _ f _ _ (step 0 0 0 0 none) 0 c.restore-gone.new.self c.requires.inside refl s.2 in
    record { fits = fits_released _ _ _ _ _ f _ _ _ (ap (λ z. z.slots) s.0) (ap (λ z. z.words) s.0) t.0 t.1 }

pub returns-clause-view : goal.returns-clause-view
returns-clause-view g c =
    let s = c.store.ensures in let f = c.args.pass.now.fits in
    (release_tells _ _ _ _ _ f _ _ (step 0 0 0 0 none) 0 c.restore-gone.new.self c.requires.inside refl s.2).0

pub returns-clause-own : goal.returns-clause-own
returns-clause-own g c =
    let s = c.store.ensures in let f = c.args.pass.now.fits in let own = c.requires.own in
    let t = release_tells _ _ _ _ _ f _ _ (step 0 0 0 0 none) 0 c.restore-gone.new.self c.requires.inside refl s.2 in
    (is_of _ _ (s.0 ∙ own.table) (ap (λ z. z.start) t.0 ∙ own.start), (s.0, s.1))
