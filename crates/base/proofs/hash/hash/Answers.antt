-- `hash` meets its contract: with each turn the hash of what is left gives the same whole.
use Rattle.std.specs.Prelude.{ℕ, ◌+◌, ◌*◌, ◌/◌, ◌%◌, ◌<◌, map, drop}
use Rattle.std.proofs.Common.{sym, ap, ◌∙◌, subst, arith}
use Rattle.base.specs.Hash.{hash_from, hash_of, hash_lt, hash_step, hash_rest}
use Rattle.base.proofs.hash.hash.Goals as goal

pub loop-x-preserved : goal.loop-x-preserved
loop-x-preserved g c =
    let l = c.loop-x in
    let e = hash_step g.T.Cell.number l.h l.x-index c.args.key.now c.x-item.result (omega arith) c.x-item.is in
    (omega arith, ap (λ (n : ℕ). hash_from ((l.h + n) * 1711563921 % 4294967296) (map g.T.Cell.number (drop (l.x-index + 1) c.args.key.now))) c.number.ensures.0 ∙ e ∙ l.invariant.1)

pub returns : goal.returns
unfolding hash_of
returns g c =
    let l = c.loop-x in
    let a = c.args in
    let k = map g.T.Cell.number a.key.now in
    let e = ap (λ (x : ℕ). x * a.m / 4294967296) (sym (hash_rest g.T.Cell.number l.h l.x-index a.key.now (omega arith)) ∙ l.invariant.1) in
    (e, subst (λ (x : ℕ). x < a.m) (sym e) (hash_lt a.m k c.requires.0))
