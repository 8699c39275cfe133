-- `signing::write_output` meets its contract. The elements and a zero in the spare half, then the salt (`output-from`).
use Rattle.std.proofs.Common.{◌≡◌, ap, ◌+◌, ◌-◌, length, get_or, rules}
use Rattle.ground.specs.Pieces.{segment-put}
use Rattle.packing.specs.Packing.{packed_bytes}
use Rattle.signing.specs.Emitting.{output-from}
use native.Mathlib.Omega.{arith}
use Rattle.sets.proofs.Bounds.{bounds_of}
use Rattle.signing.proofs.writing.write_output.Goals as goal

pub overflow_mul-bytes : goal.overflow_mul-bytes
unfolding packed_bytes
overflow_mul-bytes c =
    omega (arith, c.packed_bytes-bytes.ensures, c.signature_count-count.ensures, (bounds_of c.args.set).sizes.signature)

pub put_row-requires : goal.put_row-requires
unfolding packed_bytes
put_row-requires c =
    record {
      n_bound = (
        omega (arith, c.packed_bytes-bytes.ensures, c.signature_count-count.ensures, c.requires.output_len.0),
        omega
            (arith, c.packed_bytes-bytes.ensures, c.signature_count-count.ensures, c.requires.output_len.1),
      );
      by_index = λ k h. c.requires.by_index (0 + k);
    }

pub returns : goal.returns
unfolding packed_bytes
returns c =
    let a = c.args in
    let bytes = c.packed_bytes-bytes.result in
    let before = c.put_row.new.bytes in
    let all : bytes + length a.salt.now ≡ length before =
    omega (arith, c.packed_bytes-bytes.ensures, c.signature_count-count.ensures, c.put_row.auto.bytes, c.requires.output_len.0) in
    let rest : length before - bytes ≡ length a.salt.now = omega arith in
    let copied = c.copy_from_slice.ensures.after in
    let salt = segment-put bytes (length a.salt.now) before _ (λ k. get_or a.salt.now k 0) (omega arith) (ap length copied) (λ d h. ap (λ b. get_or b d 0) copied) in
    rw rest
    (output-from _ a.u.now a.salt.now c.requires.by_index c.requires.by_index_2 c.signature_count-count.ensures
    c.packed_bytes-bytes.ensures (record { below = search rules }) c.requires.output_len.0 c.put_row.ensures salt)
