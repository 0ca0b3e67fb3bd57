use Rattle.table_check.proofs.ruling.ruled.Goals as goal

pub pairs_cause-requires : goal.pairs_cause-requires
pairs_cause-requires c = record { classes = c.in_ok-cause.ensures.none c.in_default.is }

pub rows_cause-requires-clause-classes : goal.rows_cause-requires-clause-classes
rows_cause-requires-clause-classes c = c.in_ok-cause.ensures.none c.in_default.is

pub returns : goal.returns
returns c = record {
  ruling = record {
    classes = c.in_ok-cause.ensures.none c.in_default.is;
    pairs = c.pairs_cause.ensures.none c.in_default-pairs_cause.is;
    rows = c.rows_cause.ensures.none c.in_default-rows_cause.is;
  };
}
