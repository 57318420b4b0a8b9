-- The figures' sums over classes, one class more at a time.
use Rattle.std.specs.Prelude.{◌≡◌, refl, List, [], ◌∷◌, ◌++◌, ℕ, ◌+◌, ◌*◌, ◌≤◌, ◌<◌}
use Rattle.std.proofs.Common.{ap₂, ◌∙◌, arith}
use Rattle.definition.specs.Classes.{Class}
use Rattle.definition.specs.Figures.{total, class_vars_of, flex_vars_of}
use Rattle.class_rule.specs.Done.{Few}
use Rattle.class_premises.specs.declared.building.Counted.{Counted}
use Rattle.class_premises.specs.Buffers.{uncounted}

-- no sum is too great for a word
pub record Addable (t f : Counted) : Type 0 where
  pub vars : t.vars + f.vars < 18446744073709551616
  pub flex : t.flex + f.flex < 18446744073709551616
  pub fixed : t.fixed + f.fixed < 18446744073709551616
  pub entries : t.entries + f.entries < 18446744073709551616
  pub renamings : t.renamings + f.renamings < 18446744073709551616

-- one class more
abbrev pub summed : Counted → Counted → Counted
summed t f = record { vars = t.vars + f.vars; flex = t.flex + f.flex; fixed = t.fixed + f.fixed; entries = t.entries + f.entries; renamings = t.renamings + f.renamings }

-- these are the sums over classes cs
pub record Sums (t : Counted) (cs : List Class) : Type 0 where
  pub vars : total class_vars_of cs ≡ t.vars
  pub flex : total flex_vars_of cs ≡ t.flex
  pub fixed : total (λ (x : Class). x.fixed) cs ≡ t.fixed
  pub entries : total (λ (x : Class). x.entries) cs ≡ t.entries
  pub renamings : total (λ (x : Class). x.renamings) cs ≡ t.renamings

-- they are no more than i classes give
pub record Low (t : Counted) (i : ℕ) : Type 0 where
  pub vars : t.vars ≤ 4294967295 * i
  pub flex : t.flex ≤ 4294967295 * i
  pub fixed : t.fixed ≤ 4294967295 * i
  pub entries : t.entries ≤ 4294967295 * i
  pub renamings : t.renamings ≤ 4294967295 * i

-- ---- no class
pub sums_none : Sums uncounted []
unfolding total
sums_none = record { vars = refl; flex = refl; fixed = refl; entries = refl; renamings = refl }

pub low_none : Low uncounted 0
low_none = record { vars = omega arith; flex = omega arith; fixed = omega arith; entries = omega arith; renamings = omega arith }

-- ---- one class more
total-more : (g : Class → ℕ) (cs : List Class) (x : Class) → total g (cs ++ (x ∷ [])) ≡ total g cs + g x
unfolding total
total-more g [] x = omega arith
total-more g (c ∷ cs) x = omega (arith, total-more g cs x)

-- a figure of it is added
more : (g : Class → ℕ) (cs : List Class) (x : Class) (n m : ℕ) → total g cs ≡ n → g x ≡ m → total g (cs ++ (x ∷ [])) ≡ n + m
more g cs x n m e f = total-more g cs x ∙ ap₂ ◌+◌ e f

pub sums_more : (t f : Counted) (cs : List Class) (x : Class) → Sums t cs → class_vars_of x ≡ f.vars → flex_vars_of x ≡ f.flex → x.fixed ≡ f.fixed → x.entries ≡ f.entries → x.renamings ≡ f.renamings
    → Sums (summed t f) (cs ++ (x ∷ []))
sums_more t f cs x S v w y z u = record {
  vars = more class_vars_of cs x t.vars f.vars S.vars v;
  flex = more flex_vars_of cs x t.flex f.flex S.flex w;
  fixed = more (λ (x : Class). x.fixed) cs x t.fixed f.fixed S.fixed y;
  entries = more (λ (x : Class). x.entries) cs x t.entries f.entries S.entries z;
  renamings = more (λ (x : Class). x.renamings) cs x t.renamings f.renamings S.renamings u;
}

module _ (t f : Counted) (i n : ℕ) (small : n < 4294967295) (F : Few n f) (L : Low t i) where
  pub low_more : Low (summed t f) (i + 1)
  low_more = record {
    vars = omega (arith, L.vars, F.vars);
    flex = omega (arith, L.flex, F.flex, F.vars);
    fixed = omega (arith, L.fixed, F.fixed);
    entries = omega (arith, L.entries, F.entries);
    renamings = omega (arith, L.renamings, F.renamings, F.entries);
  }

  pub addable : i < 4294967296 → Addable t f
  addable h = record {
    vars = omega (arith, L.vars, F.vars);
    flex = omega (arith, L.flex, F.flex, F.vars);
    fixed = omega (arith, L.fixed, F.fixed);
    entries = omega (arith, L.entries, F.entries);
    renamings = omega (arith, L.renamings, F.renamings, F.entries);
  }
