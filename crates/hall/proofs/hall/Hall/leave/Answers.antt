use Rattle.std.proofs.Common.{arith, sym, ap, ◌∙◌, refl}
use mathlib.Core.Option.{none}
use Rattle.atomic_table.specs.Table.{step}
use Rattle.hall.proofs.Fitting.{sees_places, slot_inside, leave_allowed, leave_tells, fits_left}
use Rattle.hall.proofs.Owning.{is_of}
use Rattle.hall.proofs.hall.Hall.leave.Goals as goal

pub slot_mut-requires : goal.slot_mut-requires
slot_mut-requires g c = (c.requires.own.table, slot_inside _ _ _ _ _ c.args.pass.now.fits c.requires.inside)

pub store-requires : goal.store-requires
store-requires g c =
    let left = c.put-gone.ensures.left in let f = c.args.pass.now.fits in let sized = c.args.self.now.sized in let lt = (f.inside _ c.requires.inside).1 in let at = c.line_at-word.ensures in
    let slots = ap (λ z. z.slots) c.requires.own.table in let words = sized.1 in let deep = sized.0 in (
      c.requires.own.table,
      omega arith,
      leave_allowed _ _ _ _ _ f _ _ _ _ _ _ _ _ _ _ _ _ c.put-gone.new.self _ c.args.entry (sym slots) (sees_places _ _ _ _ _ f _ _ _ (ap (λ z. z.words) c.requires.own.table ∙ c.args.self.now.sized.1) c.args.self.now.places) (let p = c.args.self.now.places in omega arith) at c.requires.inside refl (ap (λ z. z.note) left) (ap (λ z. z.value) left) c.requires.session c.requires.stands
          (λ ls k n own lt e. g.L.Law.keeps _ ls _ _ c.args.entry.value k n own lt e c.requires.may),
    )

pub invariant_of-pass : goal.invariant_of-pass
invariant_of-pass g c =
    let left = c.put-gone.ensures.left in let s = c.store.ensures in let f = c.args.pass.now.fits in
    let t = leave_tells _ _ _ _ _ f _ _ (step 0 0 0 0 none) 0 c.put-gone.new.self c.args.entry c.requires.inside refl (ap (λ z. z.note) left) s.2 in
    record { fits = fits_left _ _ _ _ _ f _ _ c.args.entry.value _ (ap (λ z. z.slots) s.0) (ap (λ z. z.words) s.0) t.0 t.1 }

pub returns-clause-view : goal.returns-clause-view
returns-clause-view g c =
    let left = c.put-gone.ensures.left in let s = c.store.ensures in let f = c.args.pass.now.fits in
    (leave_tells _ _ _ _ _ f _ _ (step 0 0 0 0 none) 0 c.put-gone.new.self c.args.entry c.requires.inside refl (ap (λ z. z.note) left) s.2).0

pub returns-clause-own : goal.returns-clause-own
returns-clause-own g c =
    let left = c.put-gone.ensures.left in let s = c.store.ensures in let f = c.args.pass.now.fits in let own = c.requires.own in
    let t = leave_tells _ _ _ _ _ f _ _ (step 0 0 0 0 none) 0 c.put-gone.new.self c.args.entry c.requires.inside refl (ap (λ z. z.note) left) s.2 in
    (is_of _ _ (s.0 ∙ own.table) (ap (λ z. z.start) t.0 ∙ own.start), (s.0, s.1))
