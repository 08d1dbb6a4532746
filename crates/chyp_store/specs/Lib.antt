pub mod Items
pub mod Lists
pub mod Store
pub mod StoreLends
