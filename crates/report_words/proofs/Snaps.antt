-- Lists, snapshots and counters are read again.
use Rattle.std.proofs.Common.{◌≡◌, ℕ, ◌<◌, ◌^◌, List, [], ◌∷◌, ◌++◌, Bool, true, false, Some, refl, sym, ap, ◌∙◌, append-nil, append_assoc, arith, codes}
use Rattle.std.specs.List.{AllByRecursion}
use Rattle.std.specs.Fmt.{decimal}
use Rattle.std.specs.Str.{bytes_eq}
use Rattle.std.proofs.lemmas.Slice.Eq.{bytes_eq-Decides}
use Rattle.std.proofs.lemmas.Bool.Decides.{nat_tests}
use Rattle.tx_events.specs.Ids.{IsFullMulti}
use Rattle.tx_events.specs.declared.record.Counters.{Counters}
use Rattle.tx_events.specs.declared.snapshot.SnapData.{SnapData}
use Rattle.report_text.specs.Words.{numbers, numbers_or_dash, yes_or_no}
use Rattle.report_text.specs.ReplyText.{snapshot_words}
use Rattle.report_text.specs.RecordText.{counters_words}
use Rattle.report_words.specs.Reading.{number_of, named_at, is_multi_number, full_multi, front_ids, behind_ids, list_ids, behind_list, snap_lists_at, snap_at, counters_at}
use Rattle.report_words.specs.Fits.{FitsId, FitsMulti, FitsCounters, FitsSnap}
use Rattle.report_words.proofs.Again.{number_again, number_at_again, id_again}
use Rattle.report_words.proofs.Ids.{NoIds, OneId, none_here, id_some}

pub number_not_dash : (n : ℕ) (b : Bool) → n < 2 ^ 64 → bytes_eq (decimal n) (codes "-") ≡ b → bytes_eq (decimal n) (codes "-") ≡ false
number_not_dash n false l e = e
number_not_dash n true l e =
    let same : decimal n ≡ codes "-" = (bytes_eq-Decides (decimal n) (codes "-")).0 e in
    let none : Some n ≡ number_of (codes "-") = sym (number_again n l) ∙ ap number_of same in
    absurd cc

pub record Reads (ws : List (List ℕ)) (ids : List ℕ) (rest : List (List ℕ)) : Type 0 where
  pub ids_are : front_ids ws ≡ ids
  pub rest_is : behind_ids ws ≡ rest

pub ids_again : (ids : List ℕ) (ws : List (List ℕ)) → AllByRecursion FitsId ids → NoIds ws → Reads (numbers ids ++ ws) ids ws
ids_again [] ws f n = record { ids_are = n.ids; rest_is = n.rest }
ids_again (x ∷ ids) ws f n =
    let r = ids_again ids ws f.1 n in
    let o : OneId (decimal x ∷ (numbers ids ++ ws)) x (numbers ids ++ ws) = id_some (decimal x ∷ (numbers ids ++ ws)) x (numbers ids ++ ws) x (number_at_again x (numbers ids ++ ws) f.0.0) (id_again x f.0) in
    record { ids_are = o.ids ∙ ap (λ t. x ∷ t) r.ids_are; rest_is = o.rest ∙ r.rest_is }

pub record ReadsList (ws : List (List ℕ)) (ids : List ℕ) (rest : List (List ℕ)) : Type 0 where
  pub ids_are : list_ids ws ≡ ids
  pub rest_is : behind_list ws ≡ rest

pub list_again : (ids : List ℕ) (ws : List (List ℕ)) → AllByRecursion FitsId ids → NoIds ws → ReadsList (numbers_or_dash ids ++ ws) ids ws
list_again [] ws f n = record { ids_are = refl; rest_is = refl }
list_again (x ∷ ids) ws f n =
    let r = ids_again (x ∷ ids) ws f n in
    let d = number_not_dash x (bytes_eq (decimal x) (codes "-")) f.0.0 refl in
    record { ids_are = rw d r.ids_are; rest_is = rw d r.rest_is }

pub yes_again : (b : Bool) → bytes_eq (yes_or_no b) (codes "yes") ≡ b
yes_again true = refl
yes_again false = refl

lists_again : (s : SnapData) → FitsSnap s → snap_lists_at s.xmin s.xmax (codes "xip" ∷ (numbers_or_dash s.xip ++ (codes "sub" ∷ (numbers_or_dash s.subxip ++ (codes "overflow" ∷ yes_or_no s.overflowed ∷ []))))) ≡ Some s
unfolding snap_lists_at
lists_again s f =
    let b = list_again s.subxip (codes "overflow" ∷ yes_or_no s.overflowed ∷ []) f.subxip (none_here _ _ refl) in
    let a = list_again s.xip (codes "sub" ∷ (numbers_or_dash s.subxip ++ (codes "overflow" ∷ yes_or_no s.overflowed ∷ []))) f.xip (none_here _ _ refl) in
    rw (a.rest_is, a.ids_are, b.rest_is, b.ids_are, yes_again s.overflowed) refl

pub named_again : (w : List ℕ) (n : ℕ) (ws : List (List ℕ)) → n < 2 ^ 64 → named_at (w ∷ decimal n ∷ ws) ≡ Some (n, ws)
unfolding named_at
named_again w n ws l = number_at_again n ws l

pub snap_again : (s : SnapData) → FitsSnap s → snap_at (snapshot_words s) ≡ Some s
unfolding snap_at snapshot_words
snap_again s f =
    rw (append_assoc (numbers_or_dash s.xip), named_again (codes "xmin") s.xmin _ f.xmin.0, id_again s.xmin f.xmin, named_again (codes "xmax") s.xmax _ f.xmax.0, id_again s.xmax f.xmax) (lists_again s f)

pub multi_again : (n : ℕ) → FitsMulti n → full_multi n ≡ Some n
multi_again n f = rw (is_number n f.1) refl
  where
    is_number : (n : ℕ) → IsFullMulti n → is_multi_number n ≡ true
    is_number n l = grind (arith, nat_tests)

pub counters_again : (c : Counters) → FitsCounters c → counters_at (counters_words c) ≡ Some c
unfolding counters_at counters_words
counters_again c f =
    rw (named_again _ c.next _ f.next.0, id_again c.next f.next, named_again _ c.oldest _ f.oldest.0, id_again c.oldest f.oldest, named_again _ c.multi _ f.multi.0, multi_again c.multi f.multi, named_again _ c.offset _ f.offset, named_again _ c.oldest_multi _ f.oldest_multi.0, multi_again c.oldest_multi f.oldest_multi, named_again _ c.oldest_offset _ f.oldest_offset) refl

pub all_ids : (ids : List ℕ) → AllByRecursion FitsId ids → front_ids (numbers ids) ≡ ids
all_ids ids f = ap front_ids (sym (append-nil (numbers ids))) ∙ (ids_again ids [] f (record { ids = refl; rest = refl })).ids_are
