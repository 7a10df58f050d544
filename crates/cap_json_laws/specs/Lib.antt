pub mod JsonFields
