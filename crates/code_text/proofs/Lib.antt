mod RowsRead
mod GaussRead
mod SignsForced
mod RowsRefused
mod WorkedRows
