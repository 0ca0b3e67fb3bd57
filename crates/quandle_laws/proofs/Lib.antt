pub mod Leasts
pub mod QuandleFaults
pub mod WorkedQuandles
pub mod CocycleFaults
pub mod WorkedCocycles
pub mod WorkedColourRows
pub mod WorkedLists
