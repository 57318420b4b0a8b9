-- `build_premises` meets its contract.
use mathlib.Core.List.{[]}
use native.Mathlib.Omega.{arith}
use mathlib.Core.Path.{refl, subst}
use Rattle.definition.specs.Pack.{rule_of}
use Rattle.emit_premises.specs.Ended.{Ends}
use Rattle.emit_premises.specs.Begun.{begun-asked, begun_amid, begun-whole, finished}
use Rattle.emit_premises.proofs.build.build_premises.Goals as goal

pub begin-b-requires : goal.begin-b-requires
begin-b-requires c = (refl, omega (arith, c.requires.0.many, (c.requires.0.site.held.proper.good.rules _ c.requires.0.rule).arity))

pub build_words-x-requires : goal.build_words-x-requires
build_words-x-requires c =
    let A = c.requires.0 in
    begun-asked _ _ _ _ _ _ _ _ A c.begin-b.auto.stack _ c.begin-b.ensures (c.rule_vars-vars.ensures A.site.held.pack A.site.held.reads)

pub overflow_add-end : goal.overflow_add-end
overflow_add-end c = omega (arith, c.requires.0.many, (c.requires.0.site.held.proper.good.rules _ c.requires.0.rule).arity)

pub slice_bounds-copy_cells-end : goal.slice_bounds-copy_cells-end
slice_bounds-copy_cells-end c = omega (arith, c.requires.0.many, (c.requires.0.site.held.proper.good.rules _ c.requires.0.rule).arity, c.build_words-x.auto.stack, c.begin-b.auto.stack)

pub slice_bounds-copy_cells-end-2 : goal.slice_bounds-copy_cells-end-2
slice_bounds-copy_cells-end-2 c = omega (arith, c.requires.0.many, (c.requires.0.site.held.proper.good.rules _ c.requires.0.rule).arity, c.requires.1)

pub returns : goal.returns
returns c =
    let b = c.begin-b.ensures in
    let x = c.build_words-x.result in
    let left = c.build_words-x.new.stack in record {
      built = λ P R Q l e bs M.
          let E = c.build_words-x.ensures.built P R Q l bs M _ [] (begun_amid P Q _ l _ _ _ _ b e) in
          finished _ left _ _ c.copy_cells.ensures (rule_of P c.args.r).premises bs _ _ _ e x (subst (λ o. Ends o c.args.words.now c.build_words-x.new.words left x) (begun-whole P Q _ l _ _ _ _ b e bs _) E);
      frame = c.build_words-x.ensures.frame;
    }
