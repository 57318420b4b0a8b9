-- The beginning of a copy: the memo cleared, the variables' words zeroed, one frame written.
use Rattle.std.specs.Prelude.{◌≡◌, List, ℕ, ◌+◌, ◌-◌, ◌≤◌, length, get_or, set, replicate}
use Rattle.std.proofs.Common.{sym, ap, ◌∙◌, subst, arith, length-set, get_or-set_same, get_or-set_other}
use Rattle.std.proofs.Math.Option.{Option, none}
use Rattle.std.proofs.lemmas.List.{length-replicate}
use Rattle.base.specs.Listed.{only_at}
use Rattle.base.specs.Part.{part, put}
use Rattle.base.specs.Outside.{Outside, outside_then, outside_wider, outside_set}
use Rattle.base.specs.Lent.{lent-ahead, back, back_at, back_outside}
use Rattle.memo.specs.Recall.{recall, Remembers}
use Rattle.memo.specs.declared.memo.Memo.{Memo}
use Rattle.term_copy.specs.declared.node.Copying.{Copying}
use Rattle.term_copy.specs.Places.{table_in}
use Rattle.term_copy.specs.Frames.{Begins}

module _ (work flex : List ℕ) (l : Copying) (p : ℕ) (memo : Memo) (up : l.copied ≤ l.walk) (room : l.walk + 2 ≤ l.variables) (fits : l.variables + length flex ≤ length work)
    (table zs : List ℕ) (long : length table ≡ length (table_in work l)) where
  -- the memo came back
  abbrev first : List ℕ
  first = put l.copied (l.walk - l.copied) table work

  -- beside its table nothing has changed
  O₁ : Outside l.copied l.walk work first
  O₁ = back_outside l.copied l.walk work table up (omega arith) long

  -- where the variables' words end
  abbrev end : ℕ
  end = l.variables + length flex

  -- they are within
  pub second_fits : end ≤ length first
  second_fits = omega (arith, O₁.long)

  module _ (z : zs ≡ replicate (length (part l.variables (end - l.variables) first)) 0) where
    -- the variables' words came back
    abbrev second : List ℕ
    second = put l.variables (end - l.variables) zs first

    -- the frame was written
    abbrev third : List ℕ
    third = set (set second l.walk p) (l.walk + 1) 0

    -- as many zeros as words
    long_zs : length zs ≡ length (part l.variables (end - l.variables) first)
    long_zs = ap length z ∙ length-replicate (length (part l.variables (end - l.variables) first)) 0

    -- beside these words nothing has changed
    O₂ : Outside l.variables end first second
    O₂ = back_outside l.variables end first zs (omega arith) second_fits long_zs

    -- nothing is longer or shorter
    pub third_long : length third ≡ length work
    third_long = length-set (set second l.walk p) (l.walk + 1) 0 ∙ length-set second l.walk p ∙ O₂.long ∙ O₁.long

    -- beside the frame nothing has changed
    O₃ : Outside l.walk (l.walk + 2) second third
    O₃ = outside_then l.walk (l.walk + 2) second (set second l.walk p) third (outside_set l.walk (l.walk + 2) second l.walk p (omega arith) (omega arith)) (outside_set l.walk (l.walk + 2) (set second l.walk p) (l.walk + 1) 0 (omega arith) (omega arith))

    -- the memo's table stands there still
    table_there : table_in third l ≡ table
    table_there =
        lent-ahead l.walk (l.walk + 2) second third O₃ l.copied l.walk up (omega arith) (omega (arith, O₂.long, O₁.long))
        ∙ lent-ahead l.variables end first second O₂ l.copied l.walk up (omega arith) (omega (arith, O₁.long))
        ∙ back l.copied l.walk work table up (omega arith) long

    -- so a copy begins
    pub begun : (n : ℕ) → Remembers table memo × (recall table memo ≡ replicate n none) → Begins work third flex l p memo
    begun n R = record {
      outside = outside_then l.copied end work first third
          (outside_wider l.copied l.walk l.copied end work first (omega arith) (omega arith) O₁)
          (outside_then l.copied end first second third (outside_wider l.variables end l.copied end first second (omega arith) (omega arith) O₂) (outside_wider l.walk (l.walk + 2) l.copied end second third (omega arith) (omega arith) O₃));
      remembers = subst (λ (t : List ℕ). Remembers t memo) (sym table_there) R.0;
      empty = λ q. ap (λ (t : List ℕ). get_or (recall t memo) q none) table_there ∙ ap (λ (o : List (Option ℕ)). get_or o q none) R.1 ∙ only_at none n q;
      node = get_or-set_other (set second l.walk p) (l.walk + 1) l.walk 0 0 (λ e. absurd (omega arith)) ∙ get_or-set_same second l.walk p 0 (omega (arith, O₂.long, O₁.long));
      taken = get_or-set_same (set second l.walk p) (l.walk + 1) 0 0 (omega (arith, length-set second l.walk p, O₂.long, O₁.long));
      variables = λ k h. O₃.behind (l.variables + k) (omega arith) ∙ back_at l.variables end first zs (omega arith) second_fits long_zs k (omega arith) ∙ ap (λ (t : List ℕ). get_or t k 0) z ∙ only_at 0 (length (part l.variables (end - l.variables) first)) k;
    }
