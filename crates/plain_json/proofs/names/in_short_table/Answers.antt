use Rattle.std.proofs.Common.{ap, sym, length, arith}
use Rattle.std.specs.Prelude.{is_some}
use Rattle.containers.proofs.Entries.{absent_none}
use Rattle.extjson.specs.Wrappers.{wrapper_of, outermost_names}
use Rattle.plain_json.proofs.names.in_short_table.Goals as goal

pub returns-in_default : goal.returns-in_default
unfolding wrapper_of outermost_names
returns-in_default c =
    let h = c.in_default in
    let short = c.requires in
    sym (ap is_some (absent_none c.args.name.now outermost_names (
      (λ e. omega (arith, short, ap length e)),
      (
        (λ e. omega (arith, short, ap length e)),
        (
          (λ e. omega (arith, short, ap length e)),
          (
            (λ e. omega (arith, short, ap length e)),
            (
              (λ e. omega (arith, short, ap length e)),
              (
                (λ e. omega (arith, short, ap length e)),
                (
                  (λ e. omega (arith, short, ap length e)),
                  (
                    (λ e. omega (arith, short, ap length e)),
                    (
                      h.not-text,
                      (
                        h.not-text-2,
                        (
                          (λ e. omega (arith, short, ap length e)),
                          (
                            (λ e. omega (arith, short, ap length e)),
                            (
                              h.not-text-3,
                              (
                                (λ e. omega (arith, short, ap length e)),
                                (
                                  (λ e. omega (arith, short, ap length e)),
                                  (
                                    (λ e. omega (arith, short, ap length e)),
                                    (
                                      (λ e. omega (arith, short, ap length e)),
                                      tt,
                                    ),
                                  ),
                                ),
                              ),
                            ),
                          ),
                        ),
                      ),
                    ),
                  ),
                ),
              ),
            ),
          ),
        ),
      ),
    )))
