-- Pack and then unpack, told of the two calls: what packing answered with done is unpacked to the same elements, and that call is done too.
-- Rests on the round trip of the lists, and on what the two calls promise.
use Rattle.std.specs.Prelude.{◌≡◌, true, List, ℕ, length, Ok}
use Rattle.std.proofs.Common.{sym, ap, ap₂, ◌∙◌}
use Rattle.ground.specs.Answers.{Answer, first}
use Rattle.ground.specs.AnswerLaws.{answer-done, done-answer}
use Rattle.packing.specs.Packing.{packed_bytes, packed, unpacked, in_field, pack_rules, unpack_rules, Packs, Unpacks}
use Rattle.packing.proofs.Laws.{length-packed, unpack-pack}
use Rattle.packing.specs.Refusals.{pack-allowed, unpack-fits}

pub pack-then-unpack : (elements : List ℕ) {bytes stream room out : List ℕ} {r r' : Answer} → Packs elements bytes r stream → r ≡ Ok tt
    → Unpacks stream room r' out → length room ≡ length elements → (r' ≡ Ok tt) × (out ≡ elements)
pack-then-unpack elements {bytes} {stream} {room} {out} {r} {r'} p d u same =
    (done-answer (u.answer ∙ no-refusal), u.done no-refusal ∙ ap₂ unpacked same holds ∙ unpack-pack elements allowed.1)
  where
    done : first (pack_rules elements bytes) ≡ 0
    done = answer-done _ p.answer d

    allowed : (length bytes ≡ packed_bytes (length elements)) × (in_field elements ≡ true)
    allowed = pack-allowed elements bytes done

    holds : stream ≡ packed elements
    holds = p.done done

    fits : length stream ≡ packed_bytes (length room)
    fits = ap length holds ∙ length-packed elements ∙ ap packed_bytes (sym same)

    no-refusal : first (unpack_rules stream room) ≡ 0
    no-refusal = unpack-fits stream room fits
