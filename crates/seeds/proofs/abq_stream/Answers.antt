-- `seeds::abq_stream` meets its contract: l decides where the bytes come from, and a set that is not allowed leaves the buffer as it was.
-- Rests on what `sets::allowed` and `sets::public_bytes`, `shake256` and `expand` ensure, and on the two ways of Streams.
use Rattle.std.proofs.Common.{◌≡◌, sym, ap, ◌∙◌, true, false, length}
use Rattle.ground.specs.Pick.{pick}
use Rattle.sets.specs.Sets.{allowed_set, public_bytes}
use Rattle.seeds.specs.Seeds.{expanded, letters}
use Rattle.seeds.specs.Streams.{abq-letters, abq-follows}
use Rattle.seeds.proofs.abq_stream.Goals as goal

pub returns-then-set-le-FIXED_L : goal.returns-then-set-le-FIXED_L
unfolding letters
returns-then-set-le-FIXED_L c =
    let is-allowed : allowed_set c.args.set ≡ true = sym c.allowed.ensures ∙ c.if-allowed.true in
    let a = c.args in
    rw (is-allowed) (c.shake256.ensures ∙ sym (abq-letters a.set a.seed.now (length a.out.now) c.if-set-le-FIXED_L.true))

pub returns-else-set-le-FIXED_L : goal.returns-else-set-le-FIXED_L
returns-else-set-le-FIXED_L c =
    let is-allowed : allowed_set c.args.set ≡ true = sym c.allowed.ensures ∙ c.if-allowed.true in
    let a = c.args in
    let start : _ ≡ public_bytes a.set = c.public_bytes-start.ensures ∙ ap (λ b. pick b (public_bytes a.set) 0) (is-allowed) in
    rw (is-allowed) (c.expand.ensures ∙ ap (λ p. expanded a.seed.now p (length a.out.now)) start
    ∙ sym (abq-follows a.set a.seed.now (length a.out.now) c.if-set-le-FIXED_L.false))

pub returns-else-allowed : goal.returns-else-allowed
returns-else-allowed c =
    let refused : allowed_set c.args.set ≡ false = sym c.allowed.ensures ∙ c.if-allowed.false in
    rw refused
