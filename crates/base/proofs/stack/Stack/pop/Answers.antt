-- `Stack::pop` meets its contract.
use mathlib.Core.Path.{◌≡◌, refl, ap, ◌∙◌}
use Prim.Native.Nat.{ℕ, ◌+◌, ◌-◌}
use native.Mathlib.Omega.{arith}
use Rattle.base.specs.Stack.{stacked, stacked_pop, length-stacked}
use Rattle.base.proofs.stack.Stack.pop.Goals as goal

pub returns-then-n-eq0 : goal.returns-then-n-eq0
unfolding stacked
returns-then-n-eq0 c = let s = c.args in ap (λ (n : ℕ). stacked s.self.at n s.words.now) c.if-n-eq0.true

pub returns : goal.returns
returns c =
    let s = c.args in
    let e : s.self.len ≡ s.self.len - 1 + 1 = omega arith in (
      refl,
      omega (arith, length-stacked s.self.at s.self.len s.words.now),
      ap (λ (n : ℕ). stacked s.self.at n s.words.now) e ∙ stacked_pop s.self.at (s.self.len - 1) s.words.now,
    )
