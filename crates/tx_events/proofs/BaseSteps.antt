-- What stretches of records make of a base.
use Rattle.std.proofs.Common.{List, [], ap, append-nil, append_assoc, arith, max, sym, ℕ, ◌++◌, ◌∙◌, ◌∷◌, ◌≡◌}
use Rattle.std.proofs.lemmas.Grind.{flat_map-append}
use Rattle.std.proofs.lemmas.List.Sums.{fold-append}
use Rattle.std.proofs.lemmas.List.Elements.{filter-append}
use Rattle.std.specs.List.{filter}
use Rattle.tx_events.specs.declared.record.Rec.{Rec}
use Rattle.tx_events.specs.declared.record.Rec.TheVariants as records
use Rattle.tx_events.specs.After.{after_record, after_records}
use Rattle.tx_events.specs.LifeBase.{BasesAdd, LifeBase, base_after, committed_by, committed_in, is_multi}

pub base_then : BasesAdd
base_then base xs ys =
    let counters : after_records base.counters (xs ++ ys) ≡ after_records (after_records base.counters xs) ys = fold-append after_record base.counters xs ys in
    let committed : base.committed ++ committed_in (xs ++ ys) ≡ (base.committed ++ committed_in xs) ++ committed_in ys
    = ap (λ (t : List ℕ). base.committed ++ t) (flat_map-append committed_by xs ys) ∙ sym (append_assoc base.committed (committed_in xs) (committed_in ys)) in
    let recorded : base.recorded ++ filter is_multi (xs ++ ys) ≡ (base.recorded ++ filter is_multi xs) ++ filter is_multi ys
    = ap (λ (t : List Rec). base.recorded ++ t) (filter-append is_multi xs ys) ∙ sym (append_assoc base.recorded (filter is_multi xs) (filter is_multi ys)) in
    λ i. record { counters = counters i; committed = committed i; recorded = recorded i }

max_same : (n : ℕ) → max n n ≡ n
max_same n = grind arith

-- a checkpoint of a base's own counters leaves it as it is
pub checkpoint_settles : (base : LifeBase) (number : ℕ) → base_after base (records.Checkpoint number base.counters ∷ []) ≡ base
checkpoint_settles base number = λ i. record {
  counters = record {
    next = max_same base.counters.next i;
    oldest = max_same base.counters.oldest i;
    multi = max_same base.counters.multi i;
    offset = max_same base.counters.offset i;
    oldest_multi = max_same base.counters.oldest_multi i;
    oldest_offset = max_same base.counters.oldest_offset i;
  };
  committed = append-nil base.committed i;
  recorded = append-nil base.recorded i;
}
