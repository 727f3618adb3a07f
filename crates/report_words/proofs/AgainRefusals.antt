-- Refusals are read again.
use Rattle.std.proofs.Common.{rules, ◌≡◌, ℕ, ◌^◌, ◌<◌, List, [], false, Option, Some, None, refl, arith, codes}
use Rattle.std.specs.Str.{bytes_eq}
use Rattle.tx_events.specs.declared.refusal.Lock.{Lock}
use Rattle.tx_events.specs.declared.refusal.Lock.TheVariants as locks
use Rattle.tx_events.specs.declared.refusal.Refusal.{Refusal}
use Rattle.tx_events.specs.declared.refusal.Refusal.TheVariants as refusals
use Rattle.report_text.specs.ReplyText.{refusal_word, refusal_rest, lock_words}
use Rattle.report_words.specs.Words.{IsWord, AreWords}
use Rattle.report_words.specs.Reading.{◌>>=◌, full_id, full_multi}
use Rattle.report_words.proofs.Again.{number_at_again, number_word, id_again}
use Rattle.report_words.proofs.Snaps.{multi_again}
use Rattle.report_words.specs.Refusals.{own_refusal, other_refusal, bank_lock, lock_at, id_refusal, multi_refusal, number_refusal, stop_refusal, one_refusal, counted_refusal, refusal_at}
use Rattle.report_words.specs.Replies.{is_answer}
use Rattle.report_words.specs.Fits.{FitsLock, FitsRefusal}
use Rattle.report_words.proofs.AgainMembers.{small_again}

lock_again : (l : Lock) → FitsLock l → lock_at (lock_words l) ≡ Some l
unfolding lock_at bank_lock
lock_again locks.Log f = refl
lock_again (locks.Xact bank) f = rw (number_at_again bank [] (omega arith), small_again bank (omega arith)) refl
lock_again (locks.Subtrans bank) f = rw (number_at_again bank [] (omega arith), small_again bank (omega arith)) refl
lock_again (locks.Offsets bank) f = rw (number_at_again bank [] (omega arith), small_again bank (omega arith)) refl
lock_again (locks.Members bank) f = rw (number_at_again bank [] (omega arith), small_again bank (omega arith)) refl
lock_again _ f = absurd f

lock_are_words : (l : Lock) → FitsLock l → AreWords (lock_words l)
lock_are_words locks.Log f = search rules
lock_are_words (locks.Xact bank) f = (search rules, (number_word bank (omega arith), tt))
lock_are_words (locks.Subtrans bank) f = (search rules, (number_word bank (omega arith), tt))
lock_are_words (locks.Offsets bank) f = (search rules, (number_word bank (omega arith), tt))
lock_are_words (locks.Members bank) f = (search rules, (number_word bank (omega arith), tt))
lock_are_words _ f = absurd f

-- a word that none of these refusals has, whatever its number is
none_of : (o : Option ℕ) (f : ℕ → Option Refusal) → ((x : ℕ) → f x ≡ None) → (o >>= f) ≡ None
none_of None f h = refl
none_of (Some x) f h = h x

no_one : (w : List ℕ) (n : ℕ) → number_refusal w n ≡ None → ((x : ℕ) → id_refusal w x ≡ None) → ((x : ℕ) → multi_refusal w x ≡ None) → one_refusal w n ≡ None
unfolding one_refusal
no_one w n a h k = rw (a, none_of (full_id n) (λ id. id_refusal w id) h, none_of (full_multi n) (λ multi. multi_refusal w multi) k) refl

one_stop : (n : ℕ) → one_refusal (codes "stop") n ≡ None
unfolding number_refusal id_refusal multi_refusal
one_stop n = no_one (codes "stop") n refl (λ x. refl) (λ x. refl)

one_multi_stop : (n : ℕ) → one_refusal (codes "multi-stop") n ≡ None
unfolding number_refusal id_refusal multi_refusal
one_multi_stop n = no_one (codes "multi-stop") n refl (λ x. refl) (λ x. refl)

one_member_stop : (n : ℕ) → one_refusal (codes "member-stop") n ≡ None
unfolding number_refusal id_refusal multi_refusal
one_member_stop n = no_one (codes "member-stop") n refl (λ x. refl) (λ x. refl)

-- a word of a refusal with a multixact
one_multi : (w : List ℕ) (n : ℕ) → number_refusal w n ≡ None → ((x : ℕ) → id_refusal w x ≡ None) → full_multi n ≡ Some n → one_refusal w n ≡ multi_refusal w n
unfolding one_refusal
one_multi w n a h e = rw (a, none_of (full_id n) (λ id. id_refusal w id) h, e) refl

one_not_yet : (n : ℕ) → full_multi n ≡ Some n → one_refusal (codes "not-yet") n ≡ Some (refusals.NotYet n)
unfolding number_refusal id_refusal multi_refusal
one_not_yet n e = one_multi (codes "not-yet") n refl (λ x. refl) e

one_multi_too_old : (n : ℕ) → full_multi n ≡ Some n → one_refusal (codes "multi-too-old") n ≡ Some (refusals.MultiTooOld n)
unfolding number_refusal id_refusal multi_refusal
one_multi_too_old n e = one_multi (codes "multi-too-old") n refl (λ x. refl) e

one_multi_future : (n : ℕ) → full_multi n ≡ Some n → one_refusal (codes "multi-future") n ≡ Some (refusals.MultiFuture n)
unfolding number_refusal id_refusal multi_refusal
one_multi_future n e = one_multi (codes "multi-future") n refl (λ x. refl) e

one_held : (n : ℕ) → full_multi n ≡ Some n → one_refusal (codes "held") n ≡ Some (refusals.Held n)
unfolding number_refusal id_refusal multi_refusal
one_held n e = one_multi (codes "held") n refl (λ x. refl) e

one_LogDown : (n : ℕ) → one_refusal (codes "log-down") n ≡ Some (refusals.LogDown n)
unfolding one_refusal number_refusal
one_LogDown n = refl

one_Backward : (n : ℕ) → one_refusal (codes "backward") n ≡ Some (refusals.Backward n)
unfolding one_refusal number_refusal
one_Backward n = refl

one_NotGiven : (n : ℕ) → n < 2 ^ 32 → one_refusal (codes "not-given") n ≡ Some (refusals.NotGiven (record { number = n }))
unfolding one_refusal number_refusal
one_NotGiven n l = rw (small_again n l) refl

one_TooOld : (n : ℕ) → full_id n ≡ Some n → one_refusal (codes "too-old") n ≡ Some (refusals.TooOld n)
unfolding one_refusal number_refusal id_refusal
one_TooOld n e = rw e refl

one_Future : (n : ℕ) → full_id n ≡ Some n → one_refusal (codes "future") n ≡ Some (refusals.Future n)
unfolding one_refusal number_refusal id_refusal
one_Future n e = rw e refl

one_TooNew : (n : ℕ) → full_id n ≡ Some n → one_refusal (codes "too-new") n ≡ Some (refusals.TooNew n)
unfolding one_refusal number_refusal id_refusal
one_TooNew n e = rw e refl

pub refusal_again : (r : Refusal) → FitsRefusal r → refusal_at (refusal_word r) (refusal_rest r) ≡ Some r
unfolding refusal_word refusal_at own_refusal other_refusal counted_refusal stop_refusal
refusal_again (refusals.Stop next stop) f = rw (number_at_again next _ f.0.0, one_stop next, number_at_again stop [] f.1.0, id_again next f.0, id_again stop f.1) refl
refusal_again (refusals.DiskFault lock) f = rw (lock_again lock f) refl
refusal_again (refusals.LogDown at) f = rw (number_at_again at [] f, one_LogDown at) refl
refusal_again (refusals.TooOld oldest) f = rw (number_at_again oldest [] f.0, one_TooOld oldest (id_again oldest f)) refl
refusal_again (refusals.Future next) f = rw (number_at_again next [] f.0, one_Future next (id_again next f)) refl
refusal_again (refusals.NotGiven x) f = rw (number_at_again x.number [] (omega arith), one_NotGiven x.number f) refl
refusal_again (refusals.MultiStop next stop) f = rw (number_at_again next _ f.0.0, one_multi_stop next, number_at_again stop [] f.1.0, multi_again next f.0, multi_again stop f.1) refl
refusal_again (refusals.MemberStop next stop) f = rw (number_at_again next _ f.0, one_member_stop next, number_at_again stop [] f.1) refl
refusal_again (refusals.NotYet multi) f = rw (number_at_again multi [] f.0, one_not_yet multi (multi_again multi f)) refl
refusal_again (refusals.MultiTooOld oldest) f = rw (number_at_again oldest [] f.0, one_multi_too_old oldest (multi_again oldest f)) refl
refusal_again (refusals.MultiFuture next) f = rw (number_at_again next [] f.0, one_multi_future next (multi_again next f)) refl
refusal_again (refusals.Backward now) f = rw (number_at_again now [] f, one_Backward now) refl
refusal_again (refusals.TooNew limit) f = rw (number_at_again limit [] f.0, one_TooNew limit (id_again limit f)) refl
refusal_again (refusals.Held limit) f = rw (number_at_again limit [] f.0, one_held limit (multi_again limit f)) refl
refusal_again _ f = refl

pub refusal_not_ok : (r : Refusal) → bytes_eq (refusal_word r) (codes "ok") ≡ false
unfolding refusal_word
refusal_not_ok refusals.AlreadyOpen = refl
refusal_not_ok _ = refl

pub refusal_no_answer : (r : Refusal) → is_answer (refusal_word r) ≡ false
unfolding refusal_word is_answer
refusal_no_answer refusals.AlreadyOpen = refl
refusal_no_answer _ = refl

pub refusal_is_word : (r : Refusal) → IsWord (refusal_word r)
unfolding refusal_word
refusal_is_word refusals.AlreadyOpen = search rules
refusal_is_word _ = search rules

pub refusal_rest_are_words : (r : Refusal) → FitsRefusal r → AreWords (refusal_rest r)
refusal_rest_are_words (refusals.Stop next stop) f = (number_word next f.0.0, (number_word stop f.1.0, tt))
refusal_rest_are_words (refusals.DiskFault lock) f = lock_are_words lock f
refusal_rest_are_words (refusals.LogDown at) f = (number_word at f, tt)
refusal_rest_are_words (refusals.TooOld oldest) f = (number_word oldest f.0, tt)
refusal_rest_are_words (refusals.Future next) f = (number_word next f.0, tt)
refusal_rest_are_words (refusals.NotGiven x) f = (number_word x.number (omega arith), tt)
refusal_rest_are_words (refusals.MultiStop next stop) f = (number_word next f.0.0, (number_word stop f.1.0, tt))
refusal_rest_are_words (refusals.MemberStop next stop) f = (number_word next f.0, (number_word stop f.1, tt))
refusal_rest_are_words (refusals.NotYet multi) f = (number_word multi f.0, tt)
refusal_rest_are_words (refusals.MultiTooOld oldest) f = (number_word oldest f.0, tt)
refusal_rest_are_words (refusals.MultiFuture next) f = (number_word next f.0, tt)
refusal_rest_are_words (refusals.Backward now) f = (number_word now f, tt)
refusal_rest_are_words (refusals.TooNew limit) f = (number_word limit f.0, tt)
refusal_rest_are_words (refusals.Held limit) f = (number_word limit f.0, tt)
refusal_rest_are_words _ f = tt
