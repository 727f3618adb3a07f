use contract.BorrowLft.{⊑_meet, ⊑_static}
use Rattle.engine_host.proofs.building.life_note.Goals as goal

-- the note's lifetimes are those of what it shows
pub by-requires : goal.by-requires
by-requires g c κs within =
    let k = κs.1.1.0 in
    let s = ⊑_static k in
    let l = ⊑_meet k g.row.L.lives _ within.0 s in
    let p = ⊑_meet k g.row.P.lives _ within.1 s in
    let both = ⊑_meet k g.row.L.lives _ within.0 p in
    let u = ⊑_meet k _ _ (⊑_meet k _ _ (⊑_meet k _ _ (⊑_meet k _ _ l l) s) s) s in
    let q = ⊑_meet k _ _ (⊑_meet k _ _ p p) s in
    let v = ⊑_meet k _ _ (⊑_meet k _ _ q q) s in
    let inner = ⊑_meet k _ _ both (⊑_meet k _ _ u (⊑_meet k _ _ v (⊑_meet k _ _ v (⊑_meet k _ _ v (⊑_meet k _ _ v s))))) in
    (⊑_static κs.1.0, ⊑_meet k _ _ both (⊑_meet k _ _ (⊑_meet k _ _ (⊑_meet k _ _ inner s) s) s))
