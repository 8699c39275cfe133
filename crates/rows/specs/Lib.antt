pub mod Plus
pub mod Combine
pub mod PlusRows
pub mod RowsJoin
pub mod Tile
pub mod Zero
pub mod Unique
