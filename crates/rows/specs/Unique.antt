-- No second outcome meets a contract of this crate: every lent buffer is fixed by what went in.
-- Rests on Plus, and on packing's Written, whose streams are lists of bytes as slices of `u8` are.
use Rattle.std.specs.Prelude.{◌≡◌, List, ℕ, ◌+◌, ◌*◌, length, get_or}
use Rattle.ground.specs.Outcome.{unique-equation}
use Rattle.field.specs.Field.{mul}
use Rattle.packing.specs.Packing.{element, Bytes}
use Rattle.packing.specs.Written.{Written}
use Rattle.packing.proofs.Written.{written-unique}
use Rattle.rows.specs.Plus.{Plus, plus-unique}
use Rattle.rows.specs.Combine.{combination}
use Rattle.rows.specs.Zero.{zeros}

pub unique-add-scaled : (d src : List ℕ) (at from n s : ℕ) {t u : List ℕ} → Plus d at n (λ c. mul s (get_or src (from + c) 0)) t
    → Plus d at n (λ c. mul s (get_or src (from + c) 0)) u → t ≡ u
unique-add-scaled d src at from n s = plus-unique

pub unique-add-elements : (d stream : List ℕ) (at from n : ℕ) {t u : List ℕ} → Plus d at n (λ c. element stream (from + c)) t
    → Plus d at n (λ c. element stream (from + c)) u → t ≡ u
unique-add-elements d stream at from n = plus-unique

pub unique-add-columns : (d scalars src : List ℕ) (at n place stride count first : ℕ) {t u : List ℕ}
    → Plus d at n (combination (λ x. get_or scalars (place + x * stride) 0) src n first count) t
    → Plus d at n (combination (λ x. get_or scalars (place + x * stride) 0) src n first count) u → t ≡ u
unique-add-columns d scalars src at n place stride count first = plus-unique

pub unique-put-row : (s row : List ℕ) (from at n : ℕ) {t u : List ℕ} → Bytes t → Bytes u → Written s from n (λ c. get_or row (at + c) 0) t
    → Written s from n (λ c. get_or row (at + c) 0) u → t ≡ u
unique-put-row s row from at n = written-unique

pub unique-clear : (s : List ℕ) {t u : List ℕ} → t ≡ zeros (length s) → u ≡ zeros (length s) → t ≡ u
unique-clear s = unique-equation
