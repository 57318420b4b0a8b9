-- Document 01, "The pack": the whole of it.
use Rattle.std.specs.Prelude.{true, false, List, ℕ, eqb, leb}
use Rattle.definition.specs.Test.{◌and◌}
use Rattle.definition.specs.Pack.{Pack, empty}
use Rattle.definition.specs.Frame.{Checked, Read, Kinds, Record, records}
use Rattle.definition.specs.Theory.{take_sort, take_symbol, take_rule}
use Rattle.definition.specs.Certificate.{take_node, take_step, take_goal, take_result, take_cut, take_abstract}

-- kinds 1 to 9; "Kinds never fall along the pack"
unfoldable pub kinds : Kinds
unfolding ◌and◌
kinds = record { known = λ k. leb 1 k and leb k 9; follows = λ last k. leb last k }

-- a record of each kind, taken up into what was read before
unfoldable pub take_record : Pack → Record → Checked Pack
unfolding take_sort take_symbol take_rule take_node take_step take_goal take_result take_cut take_abstract
take_record P r =
    elim (eqb r.kind 1) [
      | true ↦ take_sort P r.body
      | false ↦
          elim (eqb r.kind 2) [
            | true ↦ take_symbol P r.body
            | false ↦
                elim (eqb r.kind 3) [
                  | true ↦ take_rule P r.body
                  | false ↦
                      elim (eqb r.kind 4) [
                        | true ↦ take_node P r.body
                        | false ↦
                            elim (eqb r.kind 5) [
                              | true ↦ take_step P r.body
                              | false ↦
                                  elim (eqb r.kind 6) [
                                    | true ↦ take_goal P r.body
                                    | false ↦
                                        elim (eqb r.kind 7) [
                                          | true ↦ take_result P r.body
                                          | false ↦
                                              elim (eqb r.kind 8) [ true ↦ take_cut P r.body | false ↦ take_abstract P r.body ]
                                        ]
                                  ]
                            ]
                      ]
                ]
          ]
    ]

-- the pack that bytes say, or the first bad record's refusal
unfoldable pub parse : List ℕ → Read Pack
unfolding records kinds take_record
parse s = records kinds take_record s 0 0 0 empty
