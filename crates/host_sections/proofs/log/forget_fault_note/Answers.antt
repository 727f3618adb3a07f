use contract.BorrowLft.{⊑_meet, ⊑_refl, ⊑_static}
use Rattle.host_sections.proofs.log.forget_fault_note.Goals as goal

-- the note's lifetimes are those of what it shows
pub by-requires : goal.by-requires
by-requires g c κs within =
    let k = κs.1.1.0 in
    let p = ⊑_meet k g.row.L.lives _ within (⊑_static k) in
    let q = ⊑_meet k _ _ p p in
    let r = ⊑_meet k k _ (⊑_refl k) q in
    let t = ⊑_meet k _ _ r (⊑_static k) in
    (⊑_static κs.1.0, ⊑_meet k _ _ t t)
