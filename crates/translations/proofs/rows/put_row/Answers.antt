-- `translations::rows::put_row` meets its contract: four stores, one after another.
use Rattle.translations.specs.StoreLaws.{row_stores}
use Rattle.translations.proofs.rows.put_row.Goals as goal

pub returns : goal.returns
returns c = row_stores _ _ _ _ _ _ _ _ _ _ c.put.ensures c.put-2.ensures c.put-3.ensures
    c.put-4.ensures
