-- The families, and the types of the rows so far.
use Rattle.std.proofs.Common.{◌≡◌, map, take}
use Rattle.node_spec.specs.AstTables.{families_in, family_names, rows_in, type_of_row}
use Rattle.node_spec.specs.within.AstSeen.{declared_by}
use Rattle.node_spec.proofs.table.table_of.Given as goal

abbrev pub invariant-loop-row : goal.invariant-loop-row
invariant-loop-row l =
    l.types ≡ record {
      families = families_in (map declared_by l.list);
      types = map (type_of_row (family_names (map declared_by l.list))) (take l.row-index (rows_in (map declared_by l.list)));
    }
